use Rattle.std.proofs.Common.{◌≡◌, true, ℕ, length, sym, ap, subst, ◌∙◌, arith}
use Rattle.sp_msg.specs.declared.marks.WireMarks.{WireMarks}
use Rattle.sp_ws.specs.Outlets.{Answered}
use Rattle.sp_ws.specs.Wires.{WsState, WsView, ws_state}
use Rattle.sp_ws.proofs.Wires.{Pulled, pulled, inside_still}
use Rattle.sp_ws.proofs.wire.WsWireWire.pull.Goals as goal

pub invariant_of-self : goal.invariant_of-self
invariant_of-self g c =
    let w = c.self.inside in
    let seen = g.L.Link.seen in
    let t : WsState = ws_state (seen w.link) w.frames w.outlet w.lost w.max w.spent.ticks w.marks in
    let is_open : w.marks.is_open ≡ true = ap (λ (v : WsView). v.wire.is_open) c.self.view_is ∙ c.requires in
    let mid = c.pull_from-returned.new.frames in
    let f = c.answer.new.frames in
    let o = c.answer.new.self in
    let l = seen c.answer.new.link in
    let returned = c.pull_from-returned.result.0 in
    let lost = c.pull_from-returned.result.1 in
    let a = subst (λ (n : ℕ). Answered n w.outlet o mid f (seen c.pull_from-returned.new.link) l) (ap length c.waiting-had.ensures) c.answer.ensures in
    let p = pulled returned lost t (seen c.pull_from-returned.new.link) l mid f o c.self.invariant.0 is_open c.pull_from-returned.ensures.pulled a in
    let q = subst (λ (k : WireMarks). Pulled returned t (ws_state l f o lost w.max w.spent.ticks k)) (sym c.pulled.ensures) p in
    (q.holds, omega arith)

pub returns : goal.returns
returns g c =
    let w = c.self.inside in
    let seen = g.L.Link.seen in
    let t : WsState = ws_state (seen w.link) w.frames w.outlet w.lost w.max w.spent.ticks w.marks in
    let is_open : w.marks.is_open ≡ true = ap (λ (v : WsView). v.wire.is_open) c.self.view_is ∙ c.requires in
    let mid = c.pull_from-returned.new.frames in
    let f = c.answer.new.frames in
    let o = c.answer.new.self in
    let l = seen c.answer.new.link in
    let returned = c.pull_from-returned.result.0 in
    let lost = c.pull_from-returned.result.1 in
    let a = subst (λ (n : ℕ). Answered n w.outlet o mid f (seen c.pull_from-returned.new.link) l) (ap length c.waiting-had.ensures) c.answer.ensures in
    let p = pulled returned lost t (seen c.pull_from-returned.new.link) l mid f o c.self.invariant.0 is_open c.pull_from-returned.ensures.pulled a in
    let q = subst (λ (k : WireMarks). Pulled returned t (ws_state l f o lost w.max w.spent.ticks k)) (sym c.pulled.ensures) p in
    rw (← c.self.view_is) (record { after = q.after; ws = q.ws; tied = q.is_tied })

pub answer-requires-clause-within : goal.answer-requires-clause-within
answer-requires-clause-within g c =
    let w = c.self.inside in
    let seen = g.L.Link.seen in
    let t : WsState = ws_state (seen w.link) w.frames w.outlet w.lost w.max w.spent.ticks w.marks in
    inside_still c.pull_from-returned.result.0 c.pull_from-returned.result.1 t (seen c.pull_from-returned.new.link) c.pull_from-returned.new.frames c.self.invariant.0 c.pull_from-returned.ensures.pulled
