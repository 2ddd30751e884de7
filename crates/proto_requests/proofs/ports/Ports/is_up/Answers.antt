use Rattle.std.proofs.Common.{◌∙◌, ap, sym}
use Rattle.std.specs.List.{list_any}
use Rattle.proto_requests.specs.Ports.{PortsView, is_pipe}
use Rattle.proto_requests.proofs.PortsInOrder.{any_found}
use Rattle.proto_requests.proofs.ports.Ports.is_up.Goals as goal

pub returns : goal.returns
returns c =
    let m = c.self.inside in
    let p = c.p.inside.0 in
    c.contains_key.ensures ∙ sym (any_found m.turn p m.held.entries) ∙ ap (λ (v : PortsView). list_any (is_pipe p) v.items) c.self.view_is ∙ ap (λ n. list_any (is_pipe n) c.args.self.now.items) c.p.view_is
