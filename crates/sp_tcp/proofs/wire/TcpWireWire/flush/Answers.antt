use Rattle.std.proofs.Common.{sym, ap, subst, ◌∙◌}
use Rattle.sp_msg.specs.declared.marks.WireMarks.{WireMarks}
use Rattle.sp_tcp.specs.Views.{TcpView}
use Rattle.sp_tcp.specs.TcpWires.{TcpState, tcp_state}
use Rattle.sp_msg.specs.Wires.{may_flush}
use Rattle.sp_tcp.specs.Marked.{IsMark}
use Rattle.sp_tcp.specs.Outlets.{SentWithin, FlushedFrom}
use Rattle.sp_tcp.proofs.MarkedFrames.{mark_small}
use Rattle.sp_tcp.proofs.Written.{Flushed, outlet_in, flushed}
use Rattle.sp_tcp.proofs.wire.TcpWireWire.flush.Goals as goal

pub write_from-returned-requires-clause-is_open : goal.write_from-returned-requires-clause-is_open
write_from-returned-requires-clause-is_open g c = c.self.invariant.marks.link_open (ap (λ (v : TcpView). may_flush v.wire) c.self.view_is ∙ c.requires)

pub invariant_of-self : goal.invariant_of-self
invariant_of-self g c =
    let w = c.self.inside in
    let seen = g.L.Link.seen in
    let t : TcpState = tcp_state w.framing (seen w.link) w.inlet w.outlet w.max w.spent.ticks w.marks in
    let l = seen c.write_from-returned.new.link in
    let o = c.write_from-returned.new.outlet in
    let with_mark = subst (λ m. FlushedFrom m c.write_from-returned.result (outlet_in t) o t.link l) c.mark-mark.ensures c.write_from-returned.ensures in
    let p = flushed c.write_from-returned.result t o l c.self.invariant with_mark in
    let q = subst (λ (k : WireMarks). Flushed c.write_from-returned.result t (tcp_state w.framing l w.inlet o w.max w.spent.ticks k)) (sym c.flushed.ensures) p in
    q.holds

pub returns : goal.returns
returns g c =
    let w = c.self.inside in
    let seen = g.L.Link.seen in
    let t : TcpState = tcp_state w.framing (seen w.link) w.inlet w.outlet w.max w.spent.ticks w.marks in
    let l = seen c.write_from-returned.new.link in
    let o = c.write_from-returned.new.outlet in
    let with_mark = subst (λ m. FlushedFrom m c.write_from-returned.result (outlet_in t) o t.link l) c.mark-mark.ensures c.write_from-returned.ensures in
    let p = flushed c.write_from-returned.result t o l c.self.invariant with_mark in
    let q = subst (λ (k : WireMarks). Flushed c.write_from-returned.result t (tcp_state w.framing l w.inlet o w.max w.spent.ticks k)) (sym c.flushed.ensures) p in
    rw (← c.self.view_is) (record { after = q.after; cause = q.cause; tcp = q.tcp; framed = q.is_framed })

pub write_from-returned-requires-clause-within : goal.write_from-returned-requires-clause-within
write_from-returned-requires-clause-within g c =
    let w = c.self.inside in
    subst (λ m. SentWithin m w.outlet.sent w.outlet.waiting) (sym c.mark-mark.ensures) c.self.invariant.within

pub write_from-returned-requires-clause-few : goal.write_from-returned-requires-clause-few
write_from-returned-requires-clause-few g c = subst IsMark (sym c.mark-mark.ensures) (mark_small c.self.inside.framing)
