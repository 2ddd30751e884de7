use Rattle.proto_requests.proofs.KnownPipes.{up_knows, known_below}
use Rattle.sp_history.specs.Past.{ups}
use Rattle.sp_history.specs.Moments.{past}
use Rattle.proto_reqrep.proofs.RequestsDue.{seen_up}
use Rattle.proto_reqrep.proofs.req.RequestProto.up.Goals as goal

pub returns-in-Ok-clause-up : goal.returns-in-Ok-clause-up
returns-in-Ok-clause-up c =
    λ t place limit name calm l h.
    let below = known_below c.args.self.now.ports.items _ _ c.args.p _ h.1 l.turn.0.itself.0 in
    (h.0, up_knows c.push.new.self.items c.args.self.now.ports.items _ _ c.args.p _ h.1 l.turn.0.itself.0 (c.in-Ok.ensures.more below), h.2, h.3, h.4, (seen_up c.args.self.now (ups (past t)) c.args.p c.push.new.self.items l.turn.0.itself.0 (c.in-Ok.ensures.more below) h.5.0, h.5.1))
