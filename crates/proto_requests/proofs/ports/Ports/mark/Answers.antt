use Rattle.std.proofs.Common.{◌∙◌, ap, sym, subst, map}
use Rattle.proto_requests.specs.Ports.{PortsView, AreKnown, port_in, marked}
use Rattle.proto_requests.proofs.PortsInOrder.{marked_known, none_marked, one_marked}
use Rattle.proto_requests.proofs.ports.Ports.mark.Goals.{in-None, in-Some}
use Rattle.proto_requests.proofs.ports.Ports.mark.Goals as goal

pub invariant_of-self : goal.invariant_of-self
invariant_of-self c =
    let m = c.self.inside in
    elim c.match-get_mut.branch [
      | in-None w ↦ subst (λ s. AreKnown s.turn s.passed.entries s.held.entries) (sym w.self-inside-is) (subst (λ h. AreKnown m.turn m.passed.entries h.entries) (sym c.get_mut.follows.holds-at-none) c.self.invariant)
      | in-Some w ↦ subst (λ s. AreKnown s.turn s.passed.entries s.held.entries) (sym w.self-inside-is) (subst (AreKnown m.turn m.passed.entries) (sym (c.get_mut.follows.holds m.turn).0) (marked_known _ m.turn m.passed.entries m.held.entries c.self.invariant))
    ]

pub returns : goal.returns
returns c =
    let m = c.self.inside in
    let p = c.p.inside.0 in
    let shown = ap (λ (v : PortsView). map (marked p) v.items) c.self.view_is ∙ ap (λ n. map (marked n) c.args.self.now.items) c.p.view_is in
    elim c.match-get_mut.branch [
      | in-None w ↦ ap (λ s. map (port_in s.turn) s.held.entries) w.self-inside-is ∙ ap (λ h. map (port_in m.turn) h.entries) c.get_mut.follows.holds-at-none ∙ sym (none_marked m.turn p m.held.entries (sym w.in-None.ensures.value)) ∙ shown
      | in-Some w ↦ ap (λ s. map (port_in s.turn) s.held.entries) w.self-inside-is ∙ ap (map (port_in m.turn)) (c.get_mut.follows.holds m.turn).0 ∙ one_marked m.turn p m.held.entries c.get_mut.ensures.ordered ∙ shown
    ]
