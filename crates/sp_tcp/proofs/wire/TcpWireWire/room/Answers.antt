use Rattle.std.proofs.Common.{sym, subst}
use Rattle.sp_msg.specs.declared.marks.WireMarks.{WireMarks}
use Rattle.sp_tcp.specs.TcpWires.{TcpState, tcp_state}
use Rattle.sp_tcp.specs.Marked.{IsMark}
use Rattle.sp_tcp.specs.Outlets.{SentWithin, RoomFrom}
use Rattle.sp_tcp.proofs.MarkedFrames.{mark_small}
use Rattle.sp_tcp.proofs.Written.{Roomed, outlet_in, roomed}
use Rattle.sp_tcp.proofs.wire.TcpWireWire.room.Goals as goal

pub invariant_of-self : goal.invariant_of-self
invariant_of-self g c =
    let w = c.self.inside in
    let seen = g.L.Link.seen in
    let t : TcpState = tcp_state w.framing (seen w.link) w.inlet w.outlet w.max w.spent.ticks w.marks in
    let l = seen c.room_from-returned.new.link in
    let o = c.room_from-returned.new.outlet in
    let room = c.room_from-returned.result in
    let with_mark = subst (λ m. RoomFrom m room (outlet_in t) o t.link l) c.mark-mark.ensures c.room_from-returned.ensures in
    let p = roomed room t o l c.self.invariant with_mark in
    let q = subst (λ (k : WireMarks). Roomed room t (tcp_state w.framing l w.inlet o w.max w.spent.ticks k)) (sym c.roomed.ensures) p in
    q.holds

pub returns : goal.returns
returns g c =
    let w = c.self.inside in
    let seen = g.L.Link.seen in
    let t : TcpState = tcp_state w.framing (seen w.link) w.inlet w.outlet w.max w.spent.ticks w.marks in
    let l = seen c.room_from-returned.new.link in
    let o = c.room_from-returned.new.outlet in
    let room = c.room_from-returned.result in
    let with_mark = subst (λ m. RoomFrom m room (outlet_in t) o t.link l) c.mark-mark.ensures c.room_from-returned.ensures in
    let p = roomed room t o l c.self.invariant with_mark in
    let q = subst (λ (k : WireMarks). Roomed room t (tcp_state w.framing l w.inlet o w.max w.spent.ticks k)) (sym c.roomed.ensures) p in
    rw (← c.self.view_is) (record { after = q.after; cause = q.cause; tcp = q.tcp; framed = q.is_framed })

pub room_from-returned-requires-clause-within : goal.room_from-returned-requires-clause-within
room_from-returned-requires-clause-within g c =
    let w = c.self.inside in
    subst (λ m. SentWithin m w.outlet.sent w.outlet.waiting) (sym c.mark-mark.ensures) c.self.invariant.within

pub room_from-returned-requires-clause-few : goal.room_from-returned-requires-clause-few
room_from-returned-requires-clause-few g c = subst IsMark (sym c.mark-mark.ensures) (mark_small c.self.inside.framing)
