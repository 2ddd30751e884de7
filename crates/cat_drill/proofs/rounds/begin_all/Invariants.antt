use Rattle.cat_drill.specs.Calling.{Calls, Later}
use Rattle.cat_drill.proofs.rounds.begin_all.Given as goal

abbrev pub invariant-loop-place : goal.invariant-loop-place
invariant-loop-place g l = record { calls : Calls l.socket l.pass l.ops.items; later : Later l.fn.pass l.pass }
