use Rattle.std.proofs.Common.{◌≡◌, true, refl, sym, ap, subst, ◌∙◌}
use Rattle.sp_msg.specs.declared.marks.WireMarks.{WireMarks}
use Rattle.sp_tcp.specs.Views.{TcpView, OutletView}
use Rattle.sp_base.specs.SpStream.{mark_of}
use Rattle.sp_tcp.specs.Outlets.{SentWithin}
use Rattle.sp_tcp.proofs.MarkedFrames.{within_more}
use Rattle.sp_tcp.specs.TcpWires.{TcpState, tcp_state}
use Rattle.sp_msg.specs.Views.{wire_text}
use Rattle.sp_tcp.proofs.Framed.{framed}
use Rattle.sp_tcp.proofs.Written.{PutTo, with_put, put_holds, put_shows}
use Rattle.sp_tcp.proofs.wire.TcpWireWire.put.Goals as goal

pub invariant_of-self : goal.invariant_of-self
invariant_of-self g c =
    let w = c.self.inside in
    let seen = g.L.Link.seen in
    let t : TcpState = tcp_state w.framing (seen w.link) w.inlet w.outlet w.max w.spent.ticks w.marks in
    let o = c.put-2.new.self in
    let ready : w.marks.is_ready ≡ true = ap (λ (v : TcpView). v.wire.is_ready) c.self.view_is ∙ c.requires.is_ready in
    let h = put_holds t o (wire_text c.args.m) c.self.invariant ready c.put-2.ensures.text c.put-2.ensures.fit (subst (λ (x : OutletView). SentWithin (mark_of t.framing) x.sent x.waiting) (sym c.put-2.ensures.text) (within_more (mark_of t.framing) (wire_text c.args.m) t.sent t.waiting c.self.invariant.within)) in
    let q = subst (λ (k : WireMarks). PutTo c.args.m t (tcp_state w.framing (seen w.link) w.inlet o w.max w.spent.ticks k)) (sym c.put.ensures) (record { holds = h; after = put_shows t o c.args.m c.put-2.ensures.text; is_framed = framed (with_put t o) h }) in
    q.holds

pub returns : goal.returns
returns g c =
    let w = c.self.inside in
    let seen = g.L.Link.seen in
    let t : TcpState = tcp_state w.framing (seen w.link) w.inlet w.outlet w.max w.spent.ticks w.marks in
    let o = c.put-2.new.self in
    let ready : w.marks.is_ready ≡ true = ap (λ (v : TcpView). v.wire.is_ready) c.self.view_is ∙ c.requires.is_ready in
    let h = put_holds t o (wire_text c.args.m) c.self.invariant ready c.put-2.ensures.text c.put-2.ensures.fit (subst (λ (x : OutletView). SentWithin (mark_of t.framing) x.sent x.waiting) (sym c.put-2.ensures.text) (within_more (mark_of t.framing) (wire_text c.args.m) t.sent t.waiting c.self.invariant.within)) in
    let q = subst (λ (k : WireMarks). PutTo c.args.m t (tcp_state w.framing (seen w.link) w.inlet o w.max w.spent.ticks k)) (sym c.put.ensures) (record { holds = h; after = put_shows t o c.args.m c.put-2.ensures.text; is_framed = framed (with_put t o) h }) in
    rw (← c.self.view_is) (record { after = q.after; link = refl; framed = q.is_framed })
