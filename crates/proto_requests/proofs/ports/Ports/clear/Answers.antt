use Rattle.std.proofs.Common.{◌∙◌, ◌+◌, [], ap, sym, subst, map}
use Rattle.proto_requests.specs.Ports.{PortsView, AreKnown, port_in, cleared}
use Rattle.proto_requests.proofs.PortsInOrder.{next_known, next_view, anew_known, anew_view}
use Rattle.proto_requests.proofs.ports.Ports.clear.Goals as goal

pub invariant_of-self : goal.invariant_of-self
invariant_of-self c = let m = c.self.inside in subst (λ es. AreKnown (m.turn + 1) es m.held.entries) (sym c.clear.ensures.empty) (next_known m.turn m.passed.entries m.held.entries c.self.invariant)

pub returns-then-self-lt18446744073709551615 : goal.returns-then-self-lt18446744073709551615
returns-then-self-lt18446744073709551615 c = next_view c.self.inside.turn c.self.inside.held.entries c.self.invariant.turns ∙ ap (λ (v : PortsView). map cleared v.items) c.self.view_is

pub invariant_of-self-2 : goal.invariant_of-self-2
invariant_of-self-2 c = let m = c.self.inside in subst (λ es. AreKnown 1 es c.restart.new.held.entries) (sym c.clear.ensures.empty) (subst (AreKnown 1 []) (sym c.restart.ensures) (anew_known m.turn m.passed.entries m.held.entries c.self.invariant))

pub returns : goal.returns
returns c = let m = c.self.inside in ap (map (port_in 1)) c.restart.ensures ∙ anew_view m.turn m.held.entries ∙ ap (λ (v : PortsView). map cleared v.items) c.self.view_is
