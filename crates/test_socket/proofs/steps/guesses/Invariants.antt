use Rattle.test_socket.specs.Calls.{Calls}
use Rattle.test_socket.proofs.steps.guesses.Given as goal

abbrev pub invariant-loop-before : goal.invariant-loop-before
invariant-loop-before g l = record { calls : Calls l.socket l.caller.pass l.caller.ops.items }
