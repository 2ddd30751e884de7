-- The first link is no longer counted.
use Rattle.std.proofs.Common.{refl, subst, arith, List, length, deque_capacity}
use Rattle.sp_ends.specs.declared.newcomer.Newcomer.{Newcomer}
use Rattle.sp_ends.specs.Listening.{AreCounted}
use Rattle.sp_ends.proofs.Owned.{counted_as, counted_rest}
use Rattle.sp_ends.proofs.links.LinkEnds.next_newcomer.Goals as goal

pub invariant_of-self-2 : goal.invariant_of-self-2
invariant_of-self-2 g c =
    let first = c.in-Some.ensures.items in
    let whole = subst (λ (ns : List (Newcomer g.row.L.Denot)). AreCounted c.self.inside.greetings.items (length c.self.inside.listeners.items) ns (deque_capacity c.self.inside.newcomers)) first c.self.invariant in
    counted_as c.one_less.new.counts.items c.one_less.new.counts.items _ _ c.pop_front.new.self.items c.pop_front.new.self.items (deque_capacity c.self.inside.newcomers) (deque_capacity c.pop_front.new.self) refl refl refl (let cap = c.pop_front.ensures.capacity in omega (arith, cap))
    (counted_rest c.self.inside.greetings.items c.one_less.new.counts.items (length c.self.inside.listeners.items) c.in-Some.newcomer c.pop_front.new.self.items (deque_capacity c.self.inside.newcomers) whole c.one_less.ensures.length c.one_less.ensures.counts)
