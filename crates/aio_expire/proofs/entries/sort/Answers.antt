use Rattle.std.proofs.Common.{rules, ◌≡◌, ◌<◌, ℕ, false, List, length, get_or, sym, ◌∙◌, arith}
use Rattle.std.specs.declared.cmp.Ordering.{Ordering}
use Rattle.std.specs.Ordering.{is_lt, nat_cmp, ordering_then}
use Rattle.std.specs.List.Sorted.{IsSortedByKey}
use Rattle.std.proofs.lemmas.Cmp.{on_total, then_total, nat_cmp_total}
use Rattle.std.proofs.lemmas.List.Sorted.{sorted_far, ranks_by, answers_always}
use Rattle.aio_expire.specs.declared.deadlines.Deadline.{Deadline}
use Rattle.aio_expire.specs.Schedule.{is_before, is_of}
use Rattle.aio_expire.proofs.InOrder.{tally-permutation, ordered_from, times-key}
use Rattle.aio_expire.proofs.entries.sort.Goals as goal

pub returns-clause-same : goal.returns-clause-same
returns-clause-same c = λ p. tally-permutation p c.args.entries.now.items c.sort_unstable_by_key.new.self.items c.sort_unstable_by_key.ensures.permutation

-- the moment and slot of an entry
abbrev key_of : Deadline → ℕ × ℕ
key_of d = (d.at, d.op.slot)

abbrev pair_cmp : ℕ × ℕ → ℕ × ℕ → Ordering
pair_cmp a b = ordering_then (nat_cmp a.0 b.0) (nat_cmp a.1 b.1)

from_sort : (xs : List Deadline) → IsSortedByKey key_of pair_cmp xs → (i j : ℕ) (d : Deadline) → i < j → j < length xs → is_before (get_or xs j d) (get_or xs i d) ≡ false
from_sort xs up i j d k l =
    let order = ranks_by (then_total (on_total (λ (p : ℕ × ℕ). p.0) nat_cmp_total) (on_total (λ (p : ℕ × ℕ). p.1) nat_cmp_total)) key_of in
    sym (times-key (get_or xs j d).at (get_or xs j d).op.slot (get_or xs i d).at (get_or xs i d).op.slot)
    ∙ sorted_far (λ x y. is_lt (pair_cmp (key_of x) (key_of y))) order xs up i j d (omega (arith, k)) l

pub returns-clause-ordered : goal.returns-clause-ordered
returns-clause-ordered c =
    let up = c.sort_unstable_by_key.ensures.sorted key_of (answers_always _ _ _ (λ f a r g k. search rules)) in
    ordered_from c.sort_unstable_by_key.new.self.items (from_sort c.sort_unstable_by_key.new.self.items up)
    (λ slot. let o = c.requires slot in let e = returns-clause-same c (is_of slot) in omega (arith, o, e))
