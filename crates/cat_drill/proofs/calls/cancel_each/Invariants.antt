use Rattle.cat_drill.specs.Calling.{IsDrillPass, Worked}
use Rattle.cat_drill.proofs.calls.cancel_each.Given as goal

abbrev pub invariant-loop-op : goal.invariant-loop-op
invariant-loop-op g l = record { own : IsDrillPass l.socket l.pass; worked : Worked l.fn.pass l.pass }
