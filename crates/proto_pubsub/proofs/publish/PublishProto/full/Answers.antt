use Rattle.proto_pubsub.proofs.Published.{full_ties}
use Rattle.proto_pubsub.proofs.publish.PublishProto.full.Goals as goal

pub returns-clause-full : goal.returns-clause-full
returns-clause-full c = λ t l h. full_ties c.args.self.now t c.args.p h
