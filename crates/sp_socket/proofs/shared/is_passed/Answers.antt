use denote.Exit.{yes}
use denote.Param.{param}
use denote.Param.Send.{param_send, arg_send, IsSend, sendable}
use denote.RattleType.{RattleType}
use Rattle.std.proofs.Crossing.{crosses}
use Rattle.sp_socket.specs.contracts.pass.Pass.{the_row}
use Rattle.sp_socket.proofs.pass_parts.PassParts.TheSendSync as hands
use Rattle.sp_socket.proofs.boxed.BoxedCore.TheSendSync as boxed
use Rattle.turn_lock.proofs.pass.Resting.TheSendSync as resting
use Rattle.turn_lock.proofs.stack.Chain.TheLaws.TheKnot as chains
use Rattle.atomic_table.proofs.shared.Seat.TheSendSync as seats
use Rattle.sp_socket.proofs.shared.is_passed.Goals as goal

pass_send : (P W : RattleType) (p : _) (w : _) → IsSend P → IsSend W → IsSend (the_row P W p w)
pass_send P W p w sp sw = search (sendable, crosses, chains.crosses, hands.the_send, boxed.the_send, resting.the_send, seats.the_send) depth 60 fits 20000

pub is_send-requires-send-T : goal.is_send-requires-send-T
is_send-requires-send-T g c κs within = param_send _ _ (arg_send _ yes _ (pass_send (param 0 g.row.P) (param 1 g.row.W) g.P.Proto g.W.Wire c.type_bounds.send-P c.type_bounds.send-W))
