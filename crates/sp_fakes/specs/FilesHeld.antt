-- What files in memory show, and what a reading of them does.
use Rattle.std.specs.Prelude.{◌≡◌, ◌⊎◌, ℕ, Bool, true, false, List, map, Option, Some, None, String, string_bytes}
use Rattle.std.specs.declared.alloc.Global.{Global}
use Rattle.std.specs.FinMap.{FinMap, from_entries}
use Rattle.std.specs.Ordering.{nat_cmp}
use Rattle.std.specs.Cmp.Lexicographic.{slice_cmp}
use Rattle.sp_base.specs.Views.{FilesView}
use Rattle.sp_base.specs.declared.outside.Whole.{Whole}
use Rattle.sp_base.specs.declared.outside.Whole.TheVariants as whole
use Rattle.sp_msg.specs.Marks.{one_more}
use Rattle.sp_fakes.specs.Calls.{Calls}
use Rattle.sp_fakes.specs.declared.files.MemFiles.{MemFiles}

-- the names with their bytes
abbrev pub named_entries : List (String Global × List ℕ) → List (List ℕ × List ℕ)
named_entries pairs = map (λ p. (string_bytes p.0, p.1)) pairs

-- the bytes by the names
abbrev pub held_by : MemFiles → FinMap (slice_cmp nat_cmp) (List ℕ)
held_by f = from_entries (named_entries f.pairs.items)

abbrev pub files_view : MemFiles → FilesView
files_view f = record { holds = Some (held_by f); faults = f.fault_count }

-- the readings, and those of them that fail
abbrev pub readings_of : MemFiles → Calls
readings_of f = record { made = f.calls; fails = f.fails.items }

abbrev pub IsCopy : Whole → List ℕ → Type 0
IsCopy (whole.Bytes copy) bytes = copy ≡ bytes
IsCopy whole.Failed bytes = ⊥
IsCopy whole.NoMemory bytes = Unit {0}

-- a reading fails exactly where it is listed or nothing is held under the name; any other reading gives what is held,
-- if there is memory
abbrev pub WholeBy : Whole → Bool → Option (List ℕ) → FilesView → FilesView → Type 0
WholeBy (whole.Bytes bytes) listed held old new = (listed ≡ false) × (held ≡ Some bytes) × (new ≡ old)
WholeBy whole.Failed listed held old new = ((listed ≡ true) ⊎ (held ≡ None)) × (new ≡ record { holds = old.holds; faults = one_more old.faults })
WholeBy whole.NoMemory listed held old new = (listed ≡ false) × ((bytes : List ℕ) × (held ≡ Some bytes)) × (new ≡ old)
