use Rattle.std.proofs.Common.{◌<◌, length, sym, ap, subst, ◌∙◌, arith}
use Rattle.std.proofs.lemmas.List.{get_or_read}
use Rattle.aio_expire.specs.Buckets.{Buckets, list_at, rings, IsListed, but}
use Rattle.aio_expire.proofs.Wheels.{slot-below, prev-below, next-below, rings-without}
use Rattle.aio_expire.proofs.wheel.Wheel.unlink.Goals as goal

pub index-before-requires : goal.index-before-requires
index-before-requires c =
    let n = c.self.inside.slots in
    let nx = c.self.inside.next.items in
    let pv = c.self.inside.prev.items in
    let is : IsListed c.args.slot (rings n nx) = subst (λ (v : Buckets). IsListed c.args.slot v.lists) (sym c.self.view_is) c.requires in
    let below = slot-below n nx pv c.args.slot c.self.invariant.0 is in
    let ln = c.self.invariant.0.next_length in
    let lp = c.self.invariant.0.prev_length in
    omega (arith, lp, below, c.self.inside.prev.ok)

pub index-behind-requires : goal.index-behind-requires
index-behind-requires c =
    let n = c.self.inside.slots in
    let nx = c.self.inside.next.items in
    let pv = c.self.inside.prev.items in
    let is : IsListed c.args.slot (rings n nx) = subst (λ (v : Buckets). IsListed c.args.slot v.lists) (sym c.self.view_is) c.requires in
    let below = slot-below n nx pv c.args.slot c.self.invariant.0 is in
    let ln = c.self.invariant.0.next_length in
    let lp = c.self.invariant.0.prev_length in
    omega (arith, ln, below, c.self.inside.next.ok)

pub index_mut-requires : goal.index_mut-requires
index_mut-requires c =
    let n = c.self.inside.slots in
    let nx = c.self.inside.next.items in
    let pv = c.self.inside.prev.items in
    let is : IsListed c.args.slot (rings n nx) = subst (λ (v : Buckets). IsListed c.args.slot v.lists) (sym c.self.view_is) c.requires in
    let below = slot-below n nx pv c.args.slot c.self.invariant.0 is in
    let ln = c.self.invariant.0.next_length in
    let lp = c.self.invariant.0.prev_length in
    let ltp : c.args.slot < length pv = omega (arith, lp, below) in
    let ra = get_or_read pv c.args.slot c.index-before.result.now ltp c.index-before.ensures 0 in
    let lt = prev-below n nx pv c.args.slot c.self.invariant.0 is in
    omega (arith, ra, lt, ln, c.self.inside.next.ok)

pub index_mut-requires-2 : goal.index_mut-requires-2
index_mut-requires-2 c =
    let n = c.self.inside.slots in
    let nx = c.self.inside.next.items in
    let pv = c.self.inside.prev.items in
    let is : IsListed c.args.slot (rings n nx) = subst (λ (v : Buckets). IsListed c.args.slot v.lists) (sym c.self.view_is) c.requires in
    let below = slot-below n nx pv c.args.slot c.self.invariant.0 is in
    let ln = c.self.invariant.0.next_length in
    let lp = c.self.invariant.0.prev_length in
    let ltn : c.args.slot < length nx = omega (arith, ln, below) in
    let rz = get_or_read nx c.args.slot c.index-behind.result.now ltn c.index-behind.ensures 0 in
    let lt = next-below n nx pv c.args.slot c.self.invariant.0 is in
    omega (arith, rz, lt, lp, c.self.inside.prev.ok)

pub invariant_of-self : goal.invariant_of-self
invariant_of-self c =
    let n = c.self.inside.slots in
    let nx = c.self.inside.next.items in
    let pv = c.self.inside.prev.items in
    let is : IsListed c.args.slot (rings n nx) = subst (λ (v : Buckets). IsListed c.args.slot v.lists) (sym c.self.view_is) c.requires in
    let below = slot-below n nx pv c.args.slot c.self.invariant.0 is in
    let ln = c.self.invariant.0.next_length in
    let lp = c.self.invariant.0.prev_length in
    let ltp : c.args.slot < length pv = omega (arith, lp, below) in
    let ra = get_or_read pv c.args.slot c.index-before.result.now ltp c.index-before.ensures 0 in
    let ltn : c.args.slot < length nx = omega (arith, ln, below) in
    let rz = get_or_read nx c.args.slot c.index-behind.result.now ltn c.index-behind.ensures 0 in
    ((rings-without n nx pv c.args.slot c.self.invariant.0 is c.index-before.result.now c.index-behind.result.now ra rz).0, c.self.invariant.1)

pub returns-clause-lists : goal.returns-clause-lists
returns-clause-lists c =
    let n = c.self.inside.slots in
    let nx = c.self.inside.next.items in
    let pv = c.self.inside.prev.items in
    let is : IsListed c.args.slot (rings n nx) = subst (λ (v : Buckets). IsListed c.args.slot v.lists) (sym c.self.view_is) c.requires in
    let below = slot-below n nx pv c.args.slot c.self.invariant.0 is in
    let ln = c.self.invariant.0.next_length in
    let lp = c.self.invariant.0.prev_length in
    let ltp : c.args.slot < length pv = omega (arith, lp, below) in
    let ra = get_or_read pv c.args.slot c.index-before.result.now ltp c.index-before.ensures 0 in
    let ltn : c.args.slot < length nx = omega (arith, ln, below) in
    let rz = get_or_read nx c.args.slot c.index-behind.result.now ltn c.index-behind.ensures 0 in
    λ b. (rings-without n nx pv c.args.slot c.self.invariant.0 is c.index-before.result.now c.index-behind.result.now ra rz).1 b ∙ ap (λ (v : Buckets). but c.args.slot (list_at b v.lists)) c.self.view_is
