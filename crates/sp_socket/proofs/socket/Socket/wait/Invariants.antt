use Rattle.std.proofs.Common.{◌≡◌}
use Rattle.sp_socket.specs.Waiting.{Waits}
use Rattle.sp_socket.proofs.socket.Socket.wait.Given as goal

abbrev pub invariant-loop : goal.invariant-loop
invariant-loop g l = record { waits : Waits l.fn.op l.fn.pass l.pass; op : l.op ≡ l.fn.op }
