use Rattle.std.proofs.Common.{refl}
use Rattle.proto_rep.proofs.Replied.{keeps_means}
use Rattle.proto_rep.proofs.rep.ReplyProto.keeps.Goals as goal

pub returns : goal.returns
returns c = λ t l h r o. keeps_means c.args.self.now t c.args.c _ _ h refl c.is_empty.ensures
