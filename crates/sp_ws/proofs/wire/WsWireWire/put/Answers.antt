use Rattle.std.proofs.Common.{◌≡◌, true, refl, sym, ap, subst, ◌∙◌}
use Rattle.sp_msg.specs.declared.marks.WireMarks.{WireMarks}
use Rattle.sp_ws.specs.Wires.{WsState, WsView, ws_state}
use Rattle.sp_ws.proofs.Wires.{PutTo, put_to}
use Rattle.sp_ws.proofs.wire.WsWireWire.put.Goals as goal

pub invariant_of-self : goal.invariant_of-self
invariant_of-self g c =
    let w = c.self.inside in
    let seen = g.L.Link.seen in
    let t : WsState = ws_state (seen w.link) w.frames w.outlet w.lost w.max w.spent.ticks w.marks in
    let o = c.put-2.new.self in
    let ready : w.marks.is_ready ≡ true = ap (λ (v : WsView). v.wire.is_ready) c.self.view_is ∙ c.requires.is_ready in
    let p = put_to t o c.args.m c.self.invariant.0 ready c.put-2.ensures in
    let q = subst (λ (k : WireMarks). PutTo c.args.m t (ws_state (seen w.link) w.frames o w.lost w.max w.spent.ticks k)) (sym c.put.ensures) p in
    (q.holds, c.self.invariant.1)

pub returns : goal.returns
returns g c =
    let w = c.self.inside in
    let seen = g.L.Link.seen in
    let t : WsState = ws_state (seen w.link) w.frames w.outlet w.lost w.max w.spent.ticks w.marks in
    let o = c.put-2.new.self in
    let ready : w.marks.is_ready ≡ true = ap (λ (v : WsView). v.wire.is_ready) c.self.view_is ∙ c.requires.is_ready in
    let p = put_to t o c.args.m c.self.invariant.0 ready c.put-2.ensures in
    let q = subst (λ (k : WireMarks). PutTo c.args.m t (ws_state (seen w.link) w.frames o w.lost w.max w.spent.ticks k)) (sym c.put.ensures) p in
    rw (← c.self.view_is) (record { after = q.after; link = refl; frames = refl; held = q.held; tied = q.is_tied })
