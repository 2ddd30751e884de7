use Rattle.cat_drill.specs.Calling.{IsDrillPass, Worked}
use Rattle.test_drill.proofs.plays.all_ended.Given as goal

abbrev pub invariant-loop-place : goal.invariant-loop-place
invariant-loop-place g l = record { own : IsDrillPass l.socket l.pass; worked : Worked l.fn.pass l.pass }
