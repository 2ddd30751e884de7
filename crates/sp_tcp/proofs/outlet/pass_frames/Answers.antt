use Rattle.std.proofs.Common.{map, refl, ◌∙◌, arith}
use Rattle.std.specs.VecDeque.{deque_len}
use Rattle.sp_msg.specs.Views.{wire_text}
use Rattle.sp_tcp.proofs.Gathers.{first_of, passing_none, passing_more, within_none, none_left}
use Rattle.sp_tcp.proofs.outlet.pass_frames.Goals as goal

pub frames-init : goal.frames-init
frames-init c = (passing_none c.args.mark.now c.args.written (map wire_text c.args.waiting.now.items) c.requires.fits, refl)

pub frames-preserved-else-left-size : goal.frames-preserved-else-left-size
frames-preserved-else-left-size c =
    let items = c.frames.waiting.items in
    let first = first_of items c.in-Some.front.now (omega (arith, c.in-Some.ensures.variant.0 refl)) c.in-Some.ensures.lookup in
    (passing_more c.args.mark.now c.args.written (map wire_text c.args.waiting.now.items) items c.pop_front.new.self.items c.in-Some.front.now c.frames.left c.size.result first c.pop_front.ensures.rest c.size.ensures.size c.if-left-size.false c.frames.invariant.0, c.pop_front.ensures.capacity ∙ c.frames.invariant.1)

pub returns-clause-within : goal.returns-clause-within
returns-clause-within c = within_none c.args.mark.now c.args.written (map wire_text c.args.waiting.now.items) c.frames.waiting.items c.frames.left (omega (arith, none_left (deque_len c.frames.waiting) c.in_default.ensures.variant.1)) c.frames.invariant.0
