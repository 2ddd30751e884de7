use Rattle.sp_core.specs.Standing.{core_setting}
use Rattle.sp_socket.proofs.NoneTaken.{leaves, none_closed}
use Rattle.sp_socket.proofs.turn_calls.CloseSocketCoreCall.act.Goals as goal

pub returns-clause-turn : goal.returns-clause-turn
returns-clause-turn g c = λ h s. let a = c.close.ensures.turn h s in (a.0, a.1, a.2, (leaves h a.0 (none_closed c.close.result (core_setting g.P.Proto.kind c.args.core.now).callers h a.0 a.3), a.3))
