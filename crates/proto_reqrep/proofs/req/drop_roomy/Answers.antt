use Rattle.std.proofs.Common.{subst}
use Rattle.proto_reqrep.specs.Roomy.{DropsOnly}
use Rattle.proto_reqrep.proofs.RoomyPipes.{dropped}
use Rattle.proto_reqrep.proofs.req.drop_roomy.Goals as goal

pub returns : goal.returns
returns c = subst (λ p. DropsOnly p c.args.roomy.now.keys c.remove.new.self.keys) c.p.view_is (dropped c.p.inside.0 c.args.roomy.now.keys c.remove.new.self.keys c.remove.ensures.updates.0)
