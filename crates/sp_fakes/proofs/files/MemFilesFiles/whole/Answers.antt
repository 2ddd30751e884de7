use Rattle.std.proofs.Common.{◌≡◌, ℕ, Bool, false, List, Some, inr, refl, sym, ap, ◌∙◌, arith}
use Rattle.std.specs.Ordering.{nat_cmp}
use Rattle.std.specs.Cmp.Lexicographic.{slice_cmp, nat_list_cmp_total}
use Rattle.std.specs.FinMap.{FinMap, find, get, from_entries, get-from_entries}
use Rattle.sp_base.specs.Steps.{AfterWhole}
use Rattle.sp_base.specs.Views.{FilesView}
use Rattle.sp_base.specs.declared.outside.Whole.{Whole}
use Rattle.sp_base.specs.declared.outside.Whole.TheVariants as whole
use Rattle.sp_fakes.specs.FilesHeld.{held_by, readings_of, named_entries, IsCopy, WholeBy}
use Rattle.sp_fakes.specs.Calls.{is_among, next_fails}
use Rattle.sp_fakes.proofs.files.MemFilesFiles.whole.Goals as goal

-- a copy of what the first entry of the name has
read : (result : Whole) (entries : List (List ℕ × List ℕ)) (name bytes : List ℕ) (faults : ℕ) → IsCopy result bytes → Some bytes ≡ find (slice_cmp nat_cmp) name entries →
    let files : FilesView = record { holds = Some (from_entries entries); faults = faults } in AfterWhole result name files files
read (whole.Bytes copy) entries name bytes faults same is = record {
  shows = get-from_entries nat_list_cmp_total entries name ∙ sym is ∙ ap Some (sym same);
  holds = refl;
  faults = omega arith;
}
read whole.Failed entries name bytes faults same is = absurd same
read whole.NoMemory entries name bytes faults same is = record { shows = tt; holds = refl; faults = omega arith }

by_copy : (result : Whole) (entries : List (List ℕ × List ℕ)) (name bytes : List ℕ) (faults : ℕ) (listed : Bool) → listed ≡ false → IsCopy result bytes → Some bytes ≡ find (slice_cmp nat_cmp) name entries →
    let held : FinMap (slice_cmp nat_cmp) (List ℕ) = from_entries entries in
    let files : FilesView = record { holds = Some held; faults = faults } in WholeBy result listed (get held name) files files
by_copy (whole.Bytes copy) entries name bytes faults listed not same is = (not, get-from_entries nat_list_cmp_total entries name ∙ sym is ∙ ap Some (sym same), refl)
by_copy whole.Failed entries name bytes faults listed not same is = absurd same
by_copy whole.NoMemory entries name bytes faults listed not same is = (not, (bytes, get-from_entries nat_list_cmp_total entries name ∙ sym is), refl)

pub returns-in-Some-clause-after : goal.returns-in-Some-clause-after
returns-in-Some-clause-after c = read c.copied.result (named_entries c.args.self.now.pairs.items) c.args.name.now c.in-Some.bytes.now c.args.self.now.fault_count c.copied.ensures (rw c.deref-2.ensures.value at c.in-Some.ensures)

pub returns-in-Some-clause-by : goal.returns-in-Some-clause-by
returns-in-Some-clause-by c = by_copy c.copied.result (named_entries c.args.self.now.pairs.items) c.args.name.now c.in-Some.bytes.now c.args.self.now.fault_count (next_fails (readings_of c.args.self.now)) (sym (c.is_listed-fails.ensures ∙ ap (is_among c.args.self.now.calls) c.deref.ensures.value) ∙ c.if-fails.false) c.copied.ensures (rw c.deref-2.ensures.value at c.in-Some.ensures)

pub returns-in-None-clause-by : goal.returns-in-None-clause-by
returns-in-None-clause-by c = (inr (get-from_entries nat_list_cmp_total (named_entries c.args.self.now.pairs.items) c.args.name.now ∙ sym (rw c.deref-2.ensures.value at c.in-None.ensures)), ap (λ n. record { holds = Some (held_by c.args.self.now); faults = n }) c.saturating_add-self-in-None.ensures)
