use Rattle.sp_socket.specs.Waiting.{HasLookedOn}
use Rattle.sp_socket.proofs.socket.Socket.sleep_on.Given as goal

abbrev pub invariant-loop : goal.invariant-loop
invariant-loop g l = record { looked : HasLookedOn l.fn.pass l.pass }
