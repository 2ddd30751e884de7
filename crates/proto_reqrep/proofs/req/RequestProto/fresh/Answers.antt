use Rattle.std.proofs.Common.{refl, ap, ◌∙◌}
use Rattle.proto_requests.proofs.KnownPipes.{fresh_knows}
use Rattle.proto_requests.specs.Ports.{PortsView, cleared}
use Rattle.sp_history.specs.Past.{ups}
use Rattle.sp_history.specs.Moments.{past}
use Rattle.proto_reqrep.proofs.RequestsDue.{seen_mapped}
use Rattle.proto_reqrep.proofs.req.RequestProto.fresh.Goals as goal

pub returns-clause-fresh : goal.returns-clause-fresh
returns-clause-fresh c =
    λ t caller l h.
    let e = ap (λ (x : PortsView). x.items) c.try_again.ensures.ports ∙ c.clear.ensures in
    (h.0, fresh_knows c.try_again.new.ports.items c.args.self.now.ports.items _ _ _ h.1 e, h.2, h.3, h.4, (seen_mapped c.args.self.now (ups (past t)) cleared c.try_again.new.ports.items (λ x. refl) e h.5.0, h.5.1))
