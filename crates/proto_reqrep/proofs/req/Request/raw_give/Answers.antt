use Rattle.std.proofs.Common.{◌∙◌, sym}
use Rattle.proto_reqrep.proofs.Offering.{nil_is, raw_none}
use Rattle.proto_reqrep.proofs.req.Request.raw_give.Goals as goal

pub returns-then-is_empty : goal.returns-then-is_empty
returns-then-is_empty c = λ r. raw_none c.args.self.now r (nil_is c.args.self.now.kept.items ∙ sym c.is_empty.ensures ∙ c.if-is_empty.true)
