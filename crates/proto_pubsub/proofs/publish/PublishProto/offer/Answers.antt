use Rattle.sp_history.specs.Past.{pend}
use Rattle.sp_history.specs.Moments.{past}
use Rattle.proto_pubsub.proofs.Published.{can_flood, idle}
use Rattle.proto_pubsub.proofs.publish.PublishProto.offer.Goals as goal

pub returns-in-Some-clause-offered : goal.returns-in-Some-clause-offered
returns-in-Some-clause-offered c = λ t l q h. can_flood c.args.self.now t c.in-Some.op h (c.in-Some.ensures (pend (past t)) h.0.pending)

pub returns-in-None-clause-offered : goal.returns-in-None-clause-offered
returns-in-None-clause-offered c = λ t l q h. idle c.args.self.now t h (c.in-None.ensures (pend (past t)) h.0.pending)
