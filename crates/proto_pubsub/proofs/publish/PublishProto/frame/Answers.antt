use Rattle.proto_pubsub.proofs.Published.{ill_formed, malformed_ties}
use Rattle.proto_pubsub.proofs.publish.PublishProto.frame.Goals as goal

pub returns-clause-kept : goal.returns-clause-kept
returns-clause-kept c = λ t short l h. (ill_formed c.args.self.now t c.args.m.body h, malformed_ties c.args.self.now t c.args.p c.args.m.body h)
