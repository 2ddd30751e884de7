use Rattle.sp_proto.specs.Kinds.{text_of}
use Rattle.sp_history.specs.declared.entry.RecordedAct.TheVariants as acts
use Rattle.sp_core.specs.Standing.{began}
use Rattle.sp_node.proofs.Steps.{still, begins_still, later_one}
use Rattle.sp_node.proofs.node.Node.begin_send.Goals as goal

pub invariant_of-self : goal.invariant_of-self
invariant_of-self g c =
    let old = c.self.inside in
    let took = c.begin_send.ensures.turn in
    (c.self.invariant.0, still old.single c.begin_send.new.self took g.L.Link.seen c.self.invariant.0 (g.N.Net.seen old.net) old.ends.links old.latest old.dry old.closed (begins_still (began c.begin_send.result) old.single.setting old.single.seen took.turn 1 c.args.c (acts.Send (text_of c.args.m)) c.args.deadline took.said.0) c.self.invariant.1)

pub returns-clause-goes_on : goal.returns-clause-goes_on
returns-clause-goes_on g c = rw (← c.self.view_is) (record { later = later_one c.self.inside.single c.begin_send.new.self c.begin_send.ensures.turn; open_ = c.begin_send.ensures.open_ })

pub returns-clause-turn : goal.returns-clause-turn
returns-clause-turn g c = rw (← c.self.view_is) c.begin_send.ensures.turn
