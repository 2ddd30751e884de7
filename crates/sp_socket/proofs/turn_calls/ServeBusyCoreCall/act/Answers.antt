use Rattle.sp_socket.proofs.NoneTaken.{leaves, none_served}
use Rattle.sp_socket.proofs.turn_calls.ServeBusyCoreCall.act.Goals as goal

pub returns-clause-turn : goal.returns-clause-turn
returns-clause-turn g c = λ h s. let a = c.serve_busy.ensures.turn h s in (a.0, a.1, a.2, (leaves h a.0 (none_served a.0.entries a.3.2.kinds), a.3))
