use Rattle.proto_pubsub.proofs.Subscribed.{in_order, keeps_means}
use Rattle.proto_pubsub.proofs.subscribe.SubscribeProto.keeps.Goals as goal

pub returns : goal.returns
returns c = λ t l h r o. keeps_means c.args.self.now t c.args.c c.deref.result.now c.keeps_for.result l h o c.deref.ensures.value (c.keeps_for.ensures (in_order c.args.self.now t c.deref.result.now h c.deref.ensures.value))
