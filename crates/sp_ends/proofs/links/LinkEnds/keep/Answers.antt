-- The link is counted, and comes after the others.
use Rattle.std.proofs.Common.{refl, ap, subst, sym, arith, length}
use Rattle.sp_ends.specs.EndViews.{LinkEndsView}
use Rattle.sp_ends.specs.Listening.{IsFromOne}
use Rattle.sp_ends.proofs.Owned.{counted_as, counted_more, counted_small}
use Rattle.sp_ends.proofs.links.LinkEnds.keep.Goals as goal

pub one_more-requires : goal.one_more-requires
one_more-requires g c =
    let few = c.self.inside.newcomers.ok.0 in
    record { small = counted_small c.self.inside.greetings.items _ c.self.inside.newcomers.items _ _ c.self.invariant (omega (arith, few)) }

pub invariant_of-self : goal.invariant_of-self
invariant_of-self g c =
    let is = c.self.view_is in
    let e = c.push_back_reserved.ensures in
    let listeners = ap (λ (v : LinkEndsView g.row.L.Denot). length v.listeners) is in
    let newcomers = ap (λ (v : LinkEndsView g.row.L.Denot). length v.newcomers) is in
    let room = c.requires.room in
    let from = subst (λ n. IsFromOne n c.args.newcomer.from) (sym listeners) c.requires.from in
    counted_as c.one_more.new.counts.items c.one_more.new.counts.items _ _ _ c.push_back_reserved.new.self.items _ _ refl refl e.items (let cap = e.capacity in omega (arith, cap))
    (counted_more c.self.inside.greetings.items c.one_more.new.counts.items (length c.self.inside.listeners.items) c.self.inside.newcomers.items c.args.newcomer _ c.self.invariant c.one_more.ensures.length c.one_more.ensures.counts from (omega (arith, listeners, newcomers, room)))
