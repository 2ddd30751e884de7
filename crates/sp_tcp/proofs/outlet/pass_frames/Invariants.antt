use Rattle.std.proofs.Common.{◌≡◌, map}
use Rattle.std.specs.VecDeque.{deque_capacity, deque_len}
use Rattle.sp_msg.specs.Views.{wire_text}
use Rattle.sp_tcp.proofs.Gathers.{Passing}
use Rattle.sp_tcp.proofs.outlet.pass_frames.Given as goal

abbrev pub invariant-frames : goal.invariant-frames
invariant-frames l = Passing l.mark l.fn.written (map wire_text l.initial.waiting.items) (map wire_text l.waiting.items) l.left × (deque_capacity l.waiting ≡ deque_capacity l.initial.waiting)

abbrev pub decreases-frames : goal.decreases-frames
decreases-frames l = deque_len l.waiting
