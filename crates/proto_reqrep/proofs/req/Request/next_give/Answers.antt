use Rattle.std.proofs.Common.{◌∙◌, sym}
use Rattle.proto_reqrep.proofs.Offering.{given_found, no_reply_left}
use Rattle.proto_reqrep.proofs.req.Request.next_give.Goals as goal

pub returns-then-self-clause-given : goal.returns-then-self-clause-given
returns-then-self-clause-given c = given_found c.args.self.now c.raw_give.result (c.raw_give.ensures c.if-self.true)

pub returns-clause-none : goal.returns-clause-none
returns-clause-none c = λ h. no_reply_left c.args.self.now c.next_ready.result c.if-self.false (c.next_ready.ensures.none h (sym c.is_whole.ensures ∙ c.if-not-is_whole.false))
