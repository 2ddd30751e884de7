use Rattle.std.proofs.Common.{sym, subst}
use Rattle.sp_msg.specs.declared.marks.WireMarks.{WireMarks}
use Rattle.sp_tcp.specs.TcpWires.{TcpState, tcp_state}
use Rattle.sp_tcp.proofs.Framed.{framed}
use Rattle.sp_tcp.proofs.Written.{ShutTo, with_shut, shut_holds, shut_shows}
use Rattle.sp_tcp.proofs.wire.TcpWireWire.shut.Goals as goal

pub invariant_of-self : goal.invariant_of-self
invariant_of-self g c =
    let w = c.self.inside in
    let seen = g.L.Link.seen in
    let t : TcpState = tcp_state w.framing (seen w.link) w.inlet w.outlet w.max w.spent.ticks w.marks in
    let l = seen c.shut-2.new.self in
    let h = shut_holds t l c.self.invariant c.shut-2.ensures in
    let q = subst (λ (k : WireMarks). ShutTo t (tcp_state w.framing l w.inlet w.outlet w.max w.spent.ticks k)) (sym c.shut.ensures) (record { holds = h; after = shut_shows t l c.shut-2.ensures; is_framed = framed (with_shut t l) h }) in
    q.holds

pub returns : goal.returns
returns g c =
    let w = c.self.inside in
    let seen = g.L.Link.seen in
    let t : TcpState = tcp_state w.framing (seen w.link) w.inlet w.outlet w.max w.spent.ticks w.marks in
    let l = seen c.shut-2.new.self in
    let h = shut_holds t l c.self.invariant c.shut-2.ensures in
    let q = subst (λ (k : WireMarks). ShutTo t (tcp_state w.framing l w.inlet w.outlet w.max w.spent.ticks k)) (sym c.shut.ensures) (record { holds = h; after = shut_shows t l c.shut-2.ensures; is_framed = framed (with_shut t l) h }) in
    rw (← c.self.view_is) (record { after = q.after; link = c.shut-2.ensures; framed = q.is_framed })
