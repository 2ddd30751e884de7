use Rattle.std.proofs.Common.{refl, sym, subst}
use Rattle.sp_msg.specs.declared.marks.WireMarks.{WireMarks}
use Rattle.sp_ws.specs.Wires.{WsState, ws_state}
use Rattle.sp_ws.proofs.Wires.{ShutTo, shut_to}
use Rattle.sp_ws.proofs.wire.WsWireWire.shut.Goals as goal

pub invariant_of-self : goal.invariant_of-self
invariant_of-self g c =
    let w = c.self.inside in
    let seen = g.L.Link.seen in
    let t : WsState = ws_state (seen w.link) w.frames w.outlet w.lost w.max w.spent.ticks w.marks in
    let l = seen c.shut-2.new.self in
    let q = subst (λ (k : WireMarks). ShutTo t (ws_state l w.frames w.outlet w.lost w.max w.spent.ticks k)) (sym c.shut.ensures) (shut_to t l c.self.invariant.0 c.shut-2.ensures) in
    (q.holds, c.self.invariant.1)

pub returns : goal.returns
returns g c =
    let w = c.self.inside in
    let seen = g.L.Link.seen in
    let t : WsState = ws_state (seen w.link) w.frames w.outlet w.lost w.max w.spent.ticks w.marks in
    let l = seen c.shut-2.new.self in
    let q = subst (λ (k : WireMarks). ShutTo t (ws_state l w.frames w.outlet w.lost w.max w.spent.ticks k)) (sym c.shut.ensures) (shut_to t l c.self.invariant.0 c.shut-2.ensures) in
    rw (← c.self.view_is) (record { after = q.after; link = c.shut-2.ensures; frames = refl; tied = q.is_tied })
