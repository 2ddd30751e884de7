use Rattle.test_socket.specs.Calls.{Calls}
use Rattle.test_socket.proofs.steps.does_all.Given as goal

abbrev pub invariant-loop-call : goal.invariant-loop-call
invariant-loop-call g l = record { calls : Calls l.socket l.caller.pass l.caller.ops.items }
