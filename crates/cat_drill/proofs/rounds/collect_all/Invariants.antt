use Rattle.cat_drill.specs.Calling.{Calls, Later}
use Rattle.cat_drill.proofs.rounds.collect_all.Given as goal

abbrev pub invariant-loop : goal.invariant-loop
invariant-loop g l = record { calls : Calls l.socket l.pass l.ops.items; later : Later l.fn.pass l.pass }
