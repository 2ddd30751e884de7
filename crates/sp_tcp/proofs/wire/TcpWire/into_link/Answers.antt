use Rattle.sp_tcp.specs.TcpWires.{TcpState, tcp_state}
use Rattle.sp_tcp.proofs.Framed.{framed}
use Rattle.sp_tcp.proofs.wire.TcpWire.into_link.Goals as goal

pub returns-clause-framed : goal.returns-clause-framed
returns-clause-framed g c =
    let w = c.self.inside in
    let t : TcpState = tcp_state w.framing (g.L.Link.seen w.link) w.inlet w.outlet w.max w.spent.ticks w.marks in
    rw (← c.self.view_is) (framed t c.self.invariant)
