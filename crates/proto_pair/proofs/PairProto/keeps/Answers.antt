use Rattle.std.proofs.Common.{◌∙◌}
use Rattle.proto_pair.proofs.Asking.{keeps_is}
use Rattle.proto_pair.proofs.PairProto.keeps.Goals as goal

pub returns : goal.returns
returns c = λ t l h r o. c.is_some.ensures ∙ keeps_is c.args.self.now t c.args.c h
