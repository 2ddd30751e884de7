use Rattle.test_socket.specs.Calls.{Calls}
use Rattle.test_socket.proofs.steps.does_rounds.Given as goal

abbrev pub invariant-loop-round : goal.invariant-loop-round
invariant-loop-round g l = record { calls : Calls l.socket l.caller.pass l.caller.ops.items }
