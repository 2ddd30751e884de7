use Rattle.std.proofs.Common.{◌∙◌, ap, sym}
use Rattle.proto_requests.specs.Ports.{where_is}
use Rattle.proto_reqrep.specs.Reqs.{way_of}
use Rattle.proto_reqrep.proofs.req.Request.roomy_port.Goals as goal

pub returns-in-To : goal.returns-in-To
returns-in-To c = ap way_of (sym c.in-To.is ∙ c.way_to.ensures) ∙ ap (λ o. way_of (where_is c.args.self.now.ports.items o)) c.next_roomy.ensures

pub returns-in-Full : goal.returns-in-Full
returns-in-Full c = ap way_of (sym c.in-Full.is ∙ c.way_to.ensures) ∙ ap (λ o. way_of (where_is c.args.self.now.ports.items o)) c.next_roomy.ensures

pub returns-in-Nowhere : goal.returns-in-Nowhere
returns-in-Nowhere c = ap way_of (sym c.in-Nowhere.is ∙ c.way_to.ensures) ∙ ap (λ o. way_of (where_is c.args.self.now.ports.items o)) c.next_roomy.ensures
