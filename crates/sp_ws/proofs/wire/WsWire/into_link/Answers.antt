use Rattle.sp_ws.specs.Wires.{WsState, ws_state}
use Rattle.sp_ws.proofs.Wires.{tied}
use Rattle.sp_ws.proofs.wire.WsWire.into_link.Goals as goal

pub returns-clause-tied : goal.returns-clause-tied
returns-clause-tied g c =
    let w = c.self.inside in
    let t : WsState = ws_state (g.L.Link.seen w.link) w.frames w.outlet w.lost w.max w.spent.ticks w.marks in
    rw (← c.self.view_is) (tied t c.self.invariant.0)
