use Rattle.std.proofs.Common.{refl}
use Rattle.sp_node.proofs.Steps.{stays_still}
use Rattle.sp_node.proofs.node.Node.cancel.Goals as goal

pub invariant_of-self : goal.invariant_of-self
invariant_of-self g c =
    let old = c.self.inside in
    (c.self.invariant.0, stays_still old.single c.cancel.new.self g.L.Link.seen c.self.invariant.0 (g.N.Net.seen old.net) old.ends.links old.latest old.dry old.closed c.cancel.ensures.still c.self.invariant.1)

pub returns-clause-still : goal.returns-clause-still
returns-clause-still g c = rw (← c.self.view_is) (c.cancel.ensures.still, refl)

pub returns-clause-raced : goal.returns-clause-raced
returns-clause-raced g c = rw (← c.self.view_is) c.cancel.ensures.raced
