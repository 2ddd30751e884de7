use Rattle.sp_core.specs.Standing.{core_setting}
use Rattle.sp_core.specs.Attaching.{attached}
use Rattle.core_state.specs.Wires.{numbers_of}
use Rattle.sp_socket.proofs.NoneTaken.{leaves, none_attached}
use Rattle.sp_socket.proofs.turn_calls.AttachCoreCall.act.Goals as goal

pub returns-clause-turn : goal.returns-clause-turn
returns-clause-turn g c = λ h s. let a = c.attach.ensures.turn.turn h s in (a.0, a.1, a.2, (leaves h a.0 (none_attached (attached c.attach.result) (core_setting g.P.Proto.kind c.args.core.now) h a.0 c.args.self.place c.args.self.max (numbers_of (g.W.Wire.shown c.args.self.w).name) a.3), (a.3, c.attach.ensures.handed_back)))
