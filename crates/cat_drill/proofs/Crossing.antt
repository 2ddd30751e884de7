-- A pass may go to another thread where machine and wire may.
use denote.RattleType.{RattleType}
use denote.Param.Send.{IsSend, sendable}
use Rattle.std.proofs.Crossing.{crosses}
use Rattle.sp_socket.specs.contracts.pass.Pass.{the_row}
use Rattle.sp_socket.proofs.pass_parts.PassParts.TheSendSync as hands
use Rattle.sp_socket.proofs.boxed.BoxedCore.TheSendSync as boxed
use Rattle.turn_lock.proofs.pass.Resting.TheSendSync as resting
use Rattle.turn_lock.proofs.stack.Chain.TheLaws.TheKnot as chains
use Rattle.atomic_table.proofs.shared.Seat.TheSendSync as seats

pub pass_send : (P W : RattleType) (p : _) (w : _) → IsSend P → IsSend W → IsSend (the_row P W p w)
pass_send P W p w sp sw = search (sendable, crosses, chains.crosses, hands.the_send, boxed.the_send, resting.the_send, seats.the_send) depth 60 fits 20000
