use Rattle.std.proofs.Common.{subst}
use Rattle.core_state.specs.declared.outcome.Outcome.{Outcome}
use Rattle.sp_history.specs.declared.entry.RecordedAct.TheVariants as acts
use Rattle.sp_node.proofs.RightEnds.{Fits, ends_rightly}
use Rattle.sp_node.proofs.Steps.{begun_apart, goes_waits}
use Rattle.sp_node.proofs.node.Node.recv.Goals as goal

pub returns-in-Received-clause-goes_on : goal.returns-in-Received-clause-goes_on
returns-in-Received-clause-goes_on g c =
    let at_begin = c.deadline-deadline.new.self in
    let began = c.in-Ok.ensures in
    goes_waits c.args.self.now at_begin c.begin_recv.new.self c.wait.new.self c.in-Ok.op c.wait.result c.deadline-deadline.ensures.goes_on began.goes_on (begun_apart at_begin.single c.begin_recv.new.self.single began.turn c.in-Ok.op 0 acts.Recv c.deadline-deadline.result began.turn.said.0) c.wait.ensures.waited

pub returns-in-Gone-clause-goes_on : goal.returns-in-Gone-clause-goes_on
returns-in-Gone-clause-goes_on g c =
    let at_begin = c.deadline-deadline.new.self in
    let began = c.in-Ok.ensures in
    goes_waits c.args.self.now at_begin c.begin_recv.new.self c.wait.new.self c.in-Ok.op c.wait.result c.deadline-deadline.ensures.goes_on began.goes_on (begun_apart at_begin.single c.begin_recv.new.self.single began.turn c.in-Ok.op 0 acts.Recv c.deadline-deadline.result began.turn.said.0) c.wait.ensures.waited

-- what was begun never ends as an operation of the other kind does
pub unreachable-requires : goal.unreachable-requires
unreachable-requires g c =
    let at_begin = c.deadline-deadline.new.self in
    let began = c.in-Ok.ensures in
    subst (λ (o : Outcome). Fits acts.Recv o) c.in-Sent.is (ends_rightly at_begin.single c.begin_recv.new.self.single c.wait.new.self.single began.turn c.in-Ok.op 0 acts.Recv c.deadline-deadline.result c.wait.result began.turn.said.0 c.wait.ensures.waited)
