use Rattle.cat_drill.proofs.DrillCallers.{collects_late, turn_later, wait_later}
use Rattle.cat_drill.proofs.calls.collect_one.Goals as goal

pub returns-in-NotYet : goal.returns-in-NotYet
returns-in-NotYet g c =
    collects_late c.args.op c.in-NotYet.op c.args.pass.now c.collect.new.pass c.cancel_one.new.pass c.wait.new.pass
    c.in-NotYet.ensures.turn.said.0 c.in-NotYet.ensures.same c.in-NotYet.ensures.open_
    (turn_later _ c.args.pass.now c.collect.new.pass c.in-NotYet.ensures.turn)
    c.cancel_one.ensures c.wait.ensures.same c.wait.ensures.open_
    (wait_later _ c.in-NotYet.op c.cancel_one.new.pass c.wait.new.pass c.wait.ensures.waited)
