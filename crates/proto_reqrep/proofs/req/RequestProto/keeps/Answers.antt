use Rattle.std.proofs.Common.{◌∙◌}
use Rattle.proto_reqrep.proofs.ReqArrivals.{given_is}
use Rattle.proto_reqrep.proofs.req.RequestProto.keeps.Goals as goal

pub returns : goal.returns
returns c = λ t l h r o. c.gives.ensures ∙ given_is c.args.self.now t c.args.c h
