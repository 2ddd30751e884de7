use Rattle.proto_pubsub.proofs.Subscribed.{never_sends}
use Rattle.proto_pubsub.proofs.subscribe.SubscribeProto.full.Goals as goal

pub returns-clause-left : goal.returns-clause-left
returns-clause-left c = λ t op s b l h k. never_sends c.args.self.now t op c.args.p s b h k
