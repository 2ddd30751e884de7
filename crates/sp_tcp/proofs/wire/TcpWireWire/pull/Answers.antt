use Rattle.std.proofs.Common.{◌≡◌, true, sym, ap, subst, ◌∙◌}
use Rattle.sp_msg.specs.declared.marks.WireMarks.{WireMarks}
use Rattle.sp_tcp.specs.Views.{TcpView}
use Rattle.sp_tcp.specs.TcpWires.{TcpState, tcp_state}
use Rattle.sp_tcp.specs.Inlets.{PulledFrom}
use Rattle.sp_tcp.proofs.Pulled.{Pulled, pulled}
use Rattle.sp_tcp.proofs.wire.TcpWireWire.pull.Goals as goal

pub invariant_of-self : goal.invariant_of-self
invariant_of-self g c =
    let w = c.self.inside in
    let seen = g.L.Link.seen in
    let t : TcpState = tcp_state w.framing (seen w.link) w.inlet w.outlet w.max w.spent.ticks w.marks in
    let is_open : w.marks.is_open ≡ true = ap (λ (v : TcpView). v.wire.is_open) c.self.view_is ∙ c.requires in
    let l = seen c.pull_from-returned.new.link in
    let u = c.pull_from-returned.new.inlet in
    let with_mark = subst (λ m. PulledFrom m t.max c.pull_from-returned.result t.unread u.unread t.link l) c.mark-mark.ensures c.pull_from-returned.ensures in
    let p = pulled c.pull_from-returned.result t u.unread l c.self.invariant is_open with_mark in
    let q = subst (λ (k : WireMarks). Pulled c.pull_from-returned.result t (tcp_state w.framing l u w.outlet w.max w.spent.ticks k)) (sym c.pulled.ensures) p in
    q.holds

pub returns : goal.returns
returns g c =
    let w = c.self.inside in
    let seen = g.L.Link.seen in
    let t : TcpState = tcp_state w.framing (seen w.link) w.inlet w.outlet w.max w.spent.ticks w.marks in
    let is_open : w.marks.is_open ≡ true = ap (λ (v : TcpView). v.wire.is_open) c.self.view_is ∙ c.requires in
    let l = seen c.pull_from-returned.new.link in
    let u = c.pull_from-returned.new.inlet in
    let with_mark = subst (λ m. PulledFrom m t.max c.pull_from-returned.result t.unread u.unread t.link l) c.mark-mark.ensures c.pull_from-returned.ensures in
    let p = pulled c.pull_from-returned.result t u.unread l c.self.invariant is_open with_mark in
    let q = subst (λ (k : WireMarks). Pulled c.pull_from-returned.result t (tcp_state w.framing l u w.outlet w.max w.spent.ticks k)) (sym c.pulled.ensures) p in
    rw (← c.self.view_is) (record { after = q.after; tcp = q.tcp; framed = q.is_framed })
