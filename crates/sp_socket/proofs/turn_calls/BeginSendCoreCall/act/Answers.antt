use Rattle.sp_core.specs.Standing.{core_setting, began}
use Rattle.sp_proto.specs.Kinds.{text_of}
use Rattle.sp_history.specs.declared.entry.RecordedAct.TheVariants as acts
use Rattle.sp_socket.proofs.NoneTaken.{leaves, none_began}
use Rattle.sp_socket.proofs.turn_calls.BeginSendCoreCall.act.Goals as goal

pub returns-clause-turn : goal.returns-clause-turn
returns-clause-turn g c = λ h s. let a = c.begin_send.ensures.turn.turn h s in (a.0, a.1, a.2, (leaves h a.0 (none_began (began c.begin_send.result) (core_setting g.P.Proto.kind c.args.core.now) h a.0 c.args.k c.args.self.c (acts.Send (text_of c.args.self.m)) c.args.self.deadline a.3.0), (a.3.0, c.begin_send.ensures.handed_back)))
