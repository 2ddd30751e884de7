use Rattle.std.proofs.Common.{[]}
use Rattle.cat_drill.specs.Calling.{Calls, Later}
use Rattle.cat_drill.proofs.rounds.give_rest.Given as goal

abbrev pub invariant-loop : goal.invariant-loop
invariant-loop g l = record { calls : Calls l.socket l.pass []; later : Later l.fn.pass l.pass }
