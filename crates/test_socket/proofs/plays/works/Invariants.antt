use Rattle.test_socket.specs.Calls.{Calls}
use Rattle.test_socket.proofs.plays.works.Given as goal

abbrev pub invariant-loop-line : goal.invariant-loop-line
invariant-loop-line g l = record { calls : Calls l.socket l.caller.pass l.caller.ops.items }
