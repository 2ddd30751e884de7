use Rattle.proto_rep.proofs.KeyedReplies.{first_in, none_in}
use Rattle.proto_rep.proofs.replies.first_from.Goals as goal

pub returns-in-None : goal.returns-in-None
returns-in-None c = none_in c.args.from c.args.index.now c.range.result c.in-None.ensures.steps.0 (c.range.ensures.in_range tt)

pub returns-in-Some : goal.returns-in-Some
returns-in-Some c = first_in c.args.from c.args.index.now c.range.result c.next.new.self c.in-Some.x.now c.in-Some.ensures.steps (c.range.ensures.in_range tt)
