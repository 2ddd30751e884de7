use Rattle.test_socket.specs.Calls.{Calls}
use Rattle.test_socket.proofs.callers.collect_all.Given as goal

abbrev pub invariant-loop : goal.invariant-loop
invariant-loop g l = record { calls : Calls l.socket l.caller.pass l.caller.ops.items }
