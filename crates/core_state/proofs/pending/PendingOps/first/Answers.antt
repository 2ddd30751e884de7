use Rattle.std.proofs.Common.{arith}
use Rattle.core_state.proofs.PendingSteps.{first_told}
use Rattle.core_state.proofs.pending.PendingOps.first.Goals as goal

pub index-requires : goal.index-requires
index-requires c =
    let t = first_told c.self.inside.slots c.self.inside.places.items c.self.inside.order c.self.inside.buckets _ c.self.invariant c.next-slot.result c.next-slot.ensures in
    omega (arith, (t.1 c.if-slot-self.false).0, c.self.inside.places.ok)
