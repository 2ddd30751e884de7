use Rattle.sp_node.proofs.Steps.{closes_on, later_one}
use Rattle.sp_node.proofs.node.Node.close.Goals as goal

pub invariant_of-self : goal.invariant_of-self
invariant_of-self g c =
    let old = c.self.inside in
    let did = c.close-totals.ensures in
    (c.self.invariant.0, closes_on g.L.Link.seen c.self.invariant.0 (g.N.Net.seen old.net) c.close-totals.result old.single c.close-totals.new.self old.ends.links old.latest old.dry old.closed did.turn did.closed c.self.invariant.1)

pub returns-clause-goes_on : goal.returns-clause-goes_on
returns-clause-goes_on g c = rw (← c.self.view_is) (record { later = later_one c.self.inside.single c.close-totals.new.self c.close-totals.ensures.turn; open_ = c.close-totals.ensures.open_ })

pub returns-clause-turn : goal.returns-clause-turn
returns-clause-turn g c = rw (← c.self.view_is) c.close-totals.ensures.turn
