use Rattle.std.proofs.Common.{◌∙◌, ap, sym, subst, map, filter, nat_cmp}
use Rattle.std.specs.Prelude.{not, ◌==◌}
use Rattle.std.specs.Map.{lookup}
use Rattle.std.specs.BTreeMap.{is_at}
use Rattle.proto_requests.specs.Ports.{PortView, PortsView, AreKnown, port_in}
use Rattle.proto_requests.proofs.PortsInOrder.{less_known, one_less}
use Rattle.proto_requests.proofs.ports.Ports.forget.Goals as goal

pub invariant_of-self : goal.invariant_of-self
invariant_of-self c =
    let m = c.self.inside in
    let test = is_at (nat_cmp c.p.inside.0) in
    subst (AreKnown m.turn m.passed.entries) (sym c.remove.ensures.entries) (less_known test m.turn m.passed.entries m.held.entries c.self.invariant)

pub returns : goal.returns
returns c =
    let m = c.self.inside in
    let p = c.p.inside.0 in
    let less = one_less m.turn p m.held.entries (ap (λ es. lookup (is_at (nat_cmp p)) es) (sym c.remove.ensures.entries) ∙ c.remove.ensures.updates.1) in
    ap (map (port_in m.turn)) c.remove.ensures.entries ∙ less ∙ ap (λ (v : PortsView). filter (λ (x : PortView). not (x.pipe == p)) v.items) c.self.view_is ∙ ap (λ n. filter (λ (x : PortView). not (x.pipe == n)) c.args.self.now.items) c.p.view_is
