use Rattle.std.proofs.Common.{◌≡◌, false, true}
use Rattle.proto_pubsub.proofs.Published.{is_pub}
use Rattle.proto_pubsub.proofs.publish.PublishProto.keeps.Goals as goal

pub returns : goal.returns
returns c = λ t l h r o. let k : false ≡ true = rw (is_pub c.args.self.now t h) at r in absurd cc
