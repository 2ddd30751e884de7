use Rattle.sp_node.proofs.Steps.{still, subscribes_still, later_one}
use Rattle.sp_node.proofs.node.Node.subscribe.Goals as goal

pub invariant_of-self : goal.invariant_of-self
invariant_of-self g c =
    let old = c.self.inside in
    let took = c.subscribe.ensures.turn in
    (c.self.invariant.0, still old.single c.subscribe.new.self took g.L.Link.seen c.self.invariant.0 (g.N.Net.seen old.net) old.ends.links old.latest old.dry old.closed (subscribes_still c.subscribe.result old.single.setting old.single.seen took.turn c.args.c c.args.topic.now took.said) c.self.invariant.1)

pub returns-clause-goes_on : goal.returns-clause-goes_on
returns-clause-goes_on g c = rw (← c.self.view_is) (record { later = later_one c.self.inside.single c.subscribe.new.self c.subscribe.ensures.turn; open_ = c.subscribe.ensures.open_ })

pub returns-clause-turn : goal.returns-clause-turn
returns-clause-turn g c = rw (← c.self.view_is) c.subscribe.ensures.turn
