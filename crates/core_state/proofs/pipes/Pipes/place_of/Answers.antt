use Rattle.std.proofs.Common.{rules, subst, ℕ, List, ◌≡◌, true, false, arith, length, ◌≤◌}
use Rattle.std.specs.Prelude.{◌==◌, is_some}
use Rattle.std.proofs.lemmas.List.Sorted.{IsPartitionPoint-from_clause}
use Rattle.sp_history.specs.Lists.{has}
use Rattle.core_state.specs.Pipes.{is_below}
use Rattle.core_state.proofs.PipeSteps.{placed_once}
use Rattle.core_state.proofs.PipesInOrder.{places_rise, parted, nowhere}
use Rattle.core_state.proofs.pipes.Pipes.place_of.Goals as goal

pub returns-then-i-len : goal.returns-then-i-len
returns-then-i-len g c = λ t lawful h.
    let xs = c.args.self.now.places.items in
    let rising = places_rise g.W.Wire.shown c.args.self.now t h in
    let point = IsPartitionPoint-from_clause (is_below c.args.p) xs _ c.partition_point-i.ensures.partitioned (parted xs c.args.p rising) (λ a r q k. search rules) in
    subst (λ (ps : List ℕ). has ps c.args.p ≡ false) h.up_is (nowhere xs c.args.p c.partition_point-i.result rising point (λ x l. let none : length xs ≤ c.partition_point-i.result = omega (arith, c.if-i-len.true, c.len.ensures, c.args.self.now.places.ok.0) in absurd (omega (arith, none, l))))

pub returns-then-not-is_up_as : goal.returns-then-not-is_up_as
returns-then-not-is_up_as g c = λ t lawful h.
    let xs = c.args.self.now.places.items in
    let rising = places_rise g.W.Wire.shown c.args.self.now t h in
    let point = IsPartitionPoint-from_clause (is_below c.args.p) xs _ c.partition_point-i.ensures.partitioned (parted xs c.args.p rising) (λ a r q k. search rules) in
    subst (λ (ps : List ℕ). has ps c.args.p ≡ false) h.up_is
    (nowhere xs c.args.p c.partition_point-i.result rising point (λ x l at some. subst (λ (y : _). is_some y.wire ≡ true → (y.id == c.args.p) ≡ false) (placed_once xs c.partition_point-i.result c.index.result.now x l c.index.ensures at) (c.is_up_as.ensures.other c.if-not-is_up_as.true) some))
