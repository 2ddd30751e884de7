-- The entry of each slot, and the bucket of the wheel that it is in.
use Rattle.std.specs.Prelude.{◌&&◌, max, ◌⊎◌, length, ◌≡◌, ℕ, ◌+◌, ◌%◌, ◌/◌, ◌<◌, ◌≤◌, Bool, ◌==◌, nat_le, cond, List, [], ◌∷◌, Option, None, Some, slice_index_or}
use Rattle.aio_expire.specs.declared.deadlines.Deadline.{Deadline}
use Rattle.aio_expire.specs.Schedule.{put_in, tally, is_of}
use Rattle.aio_expire.specs.Buckets.{one_if, count_in, list_at}

-- the entries by slot, and the latest moment that the wheel was turned to
pub record SlotEntries : Type 0 where
  pub cells : List (Option Deadline)
  pub turned : ℕ

abbrev pub cell_at : ℕ → List (Option Deadline) → Option Deadline
cell_at slot cells = slice_index_or cells slot None

-- The bucket of an entry of this moment when the wheel is turned to `turned`: with the overdue ones in the bucket of
-- that moment; in the bucket of its tick, of its 256 ticks where only the 65,536 ticks agree, or else in the last.
abbrev pub bucket_of : ℕ → ℕ → ℕ
bucket_of turned at =
    cond (nat_le at turned) (turned % 256)
    (cond (at / 256 == turned / 256) (at % 256)
    (cond (at / 65536 == turned / 65536) (256 + (at / 256) % 256) 512))

-- 1 where the entry belongs in the bucket
abbrev pub belongs : ℕ → ℕ → Option Deadline → ℕ
belongs turned bucket None = 0
belongs turned bucket (Some e) = one_if (bucket_of turned e.at == bucket)

-- an entry is at its own slot
abbrev pub AreOwn : List (Option Deadline) → Type 0
AreOwn cells = (slot : ℕ) (e : Deadline) → cell_at slot cells ≡ Some e → e.op.slot ≡ slot

-- each list has the slots of the entries that belong in its bucket, each once, and no others
abbrev pub AreFiled : ℕ → List (Option Deadline) → List (List ℕ) → Type 0
AreFiled turned cells lists = (bucket slot : ℕ) → count_in slot (list_at bucket lists) ≡ belongs turned bucket (cell_at slot cells)

-- how many of the entries pass the test
abbrev pub count_cells : (Deadline → Bool) → List (Option Deadline) → ℕ
count_cells p [] = 0
count_cells p (None ∷ cs) = count_cells p cs
count_cells p (Some e ∷ cs) = one_if (p e) + count_cells p cs

-- the entries in order
abbrev pub in_order : List (Option Deadline) → List Deadline
in_order [] = []
in_order (None ∷ cs) = in_order cs
in_order (Some e ∷ cs) = put_in e (in_order cs)

-- The lists of the wheel: each has the slots of the entries that belong in its bucket, each once, and no others.
pub record IsWheelOf (turned : ℕ) (entries : List Deadline) (lists : List (List ℕ)) : Type 0 where
  pub count : length lists ≡ 513
  pub each : (bucket slot : ℕ) → count_in slot (list_at bucket lists) ≡ tally (λ d. is_of slot d && bucket_of turned d.at == bucket) entries

-- ---- How entries fall due

-- entries went from the slots to the end of a list, and nothing else changed
pub record IsPulled (old : SlotEntries) (before : List Deadline) (new : SlotEntries) (behind : List Deadline) : Type 0 where
  pub turned : new.turned ≡ old.turned
  pub slots : length new.cells ≡ length old.cells
  pub fewer : (slot : ℕ) (e : Deadline) → cell_at slot new.cells ≡ Some e → cell_at slot old.cells ≡ Some e
  pub moved : (p : Deadline → Bool) → tally p behind + count_cells p new.cells ≡ tally p before + count_cells p old.cells

-- all buckets from one on and below another are empty
abbrev pub AreEmpty : ℕ → ℕ → SlotEntries → Type 0
AreEmpty low high s = (bucket slot : ℕ) → low ≤ bucket → bucket < high → belongs s.turned bucket (cell_at slot s.cells) ≡ 0

-- the bucket is in neither of two ranges
abbrev pub IsOutside : (low high low' high' bucket : ℕ) → Type 0
IsOutside low high low' high' bucket = ((bucket < low) ⊎ (high ≤ bucket)) × ((bucket < low') ⊎ (high' ≤ bucket))

-- what is elsewhere is later than `now`, and stays there when the wheel is turned to it
abbrev pub StaysAt : (turned now at : ℕ) → Type 0
StaysAt turned now at = (now < at) × (bucket_of (max turned now) at ≡ bucket_of turned at)

-- each entry that is left is later than `now`, and stays where it is
abbrev pub AllStay : (now : ℕ) → SlotEntries → Type 0
AllStay now s = (slot : ℕ) (e : Deadline) → cell_at slot s.cells ≡ Some e → StaysAt s.turned now e.at

-- no slot has two entries, in the list or at the slots, and none has a slot that doesn't exist
pub record AreApart (s : SlotEntries) (es : List Deadline) : Type 0 where
  pub once : (slot : ℕ) → tally (is_of slot) es + count_cells (is_of slot) s.cells ≤ 1
  pub inside : (slot : ℕ) → length s.cells ≤ slot → tally (is_of slot) es ≡ 0
