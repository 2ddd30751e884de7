use Rattle.proto_pubsub.proofs.Subscribed.{down_ties, never_sends}
use Rattle.proto_pubsub.proofs.subscribe.SubscribeProto.down.Goals as goal

pub returns-clause-down : goal.returns-clause-down
returns-clause-down c = λ t why l h. down_ties c.args.self.now t c.args.p why h

pub returns-clause-left : goal.returns-clause-left
returns-clause-left c = λ t op s b l h k. never_sends c.args.self.now t op c.args.p s b h k
