use Rattle.sp_core.specs.Standing.{core_setting}
use Rattle.sp_socket.proofs.NoneTaken.{leaves, none_shut}
use Rattle.sp_socket.proofs.turn_calls.CloseCtxCoreCall.act.Goals as goal

pub returns-clause-turn : goal.returns-clause-turn
returns-clause-turn g c = λ h s. let a = c.close_ctx.ensures.turn h s in (a.0, a.1, a.2, (leaves h a.0 (none_shut c.close_ctx.result (core_setting g.P.Proto.kind c.args.core.now) h a.0 c.args.self.c a.3), a.3))
