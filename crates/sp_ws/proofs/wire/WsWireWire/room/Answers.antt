use Rattle.std.proofs.Common.{◌≡◌, true, sym, ap, subst, ◌∙◌}
use Rattle.sp_msg.specs.declared.marks.WireMarks.{WireMarks}
use Rattle.sp_ws.specs.Wires.{WsState, WsView, ws_state}
use Rattle.sp_ws.proofs.Wires.{Roomed, roomed}
use Rattle.sp_ws.proofs.wire.WsWireWire.room.Goals as goal

pub invariant_of-self : goal.invariant_of-self
invariant_of-self g c =
    let w = c.self.inside in
    let seen = g.L.Link.seen in
    let t : WsState = ws_state (seen w.link) w.frames w.outlet w.lost w.max w.spent.ticks w.marks in
    let is_open : w.marks.is_open ≡ true = ap (λ (v : WsView). v.wire.is_open) c.self.view_is ∙ c.requires in
    let l = seen c.room_from-returned.new.link in
    let f = c.room_from-returned.new.frames in
    let o = c.room_from-returned.new.outlet in
    let room = c.room_from-returned.result in
    let p = roomed room t l f o c.self.invariant.0 is_open c.room_from-returned.ensures in
    let q = subst (λ (k : WireMarks). Roomed room t (ws_state l f o w.lost w.max w.spent.ticks k)) (sym c.roomed.ensures) p in
    (q.holds, c.self.invariant.1)

pub returns : goal.returns
returns g c =
    let w = c.self.inside in
    let seen = g.L.Link.seen in
    let t : WsState = ws_state (seen w.link) w.frames w.outlet w.lost w.max w.spent.ticks w.marks in
    let is_open : w.marks.is_open ≡ true = ap (λ (v : WsView). v.wire.is_open) c.self.view_is ∙ c.requires in
    let l = seen c.room_from-returned.new.link in
    let f = c.room_from-returned.new.frames in
    let o = c.room_from-returned.new.outlet in
    let room = c.room_from-returned.result in
    let p = roomed room t l f o c.self.invariant.0 is_open c.room_from-returned.ensures in
    let q = subst (λ (k : WireMarks). Roomed room t (ws_state l f o w.lost w.max w.spent.ticks k)) (sym c.roomed.ensures) p in
    rw (← c.self.view_is) (record { after = q.after; cause = q.cause; ws = q.ws; tied = q.is_tied })
