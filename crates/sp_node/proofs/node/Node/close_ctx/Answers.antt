use Rattle.sp_node.proofs.Steps.{still, shuts_still, later_one}
use Rattle.sp_node.proofs.node.Node.close_ctx.Goals as goal

pub invariant_of-self : goal.invariant_of-self
invariant_of-self g c =
    let old = c.self.inside in
    let took = c.close_ctx.ensures.turn in
    (c.self.invariant.0, still old.single c.close_ctx.new.self took g.L.Link.seen c.self.invariant.0 (g.N.Net.seen old.net) old.ends.links old.latest old.dry old.closed (shuts_still c.close_ctx.result old.single.setting old.single.seen took.turn c.args.c took.said) c.self.invariant.1)

pub returns-clause-goes_on : goal.returns-clause-goes_on
returns-clause-goes_on g c = rw (← c.self.view_is) (record { later = later_one c.self.inside.single c.close_ctx.new.self c.close_ctx.ensures.turn; open_ = c.close_ctx.ensures.open_ })

pub returns-clause-turn : goal.returns-clause-turn
returns-clause-turn g c = rw (← c.self.view_is) c.close_ctx.ensures.turn
