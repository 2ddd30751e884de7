use Rattle.proto_live_requests.proofs.KeyedOuts.{first_in_range, first_from_pipe, none_from_pipe, piped_in}
use Rattle.proto_live_requests.proofs.outs.first_from.Goals as goal

pub returns-in-Some-clause-member : goal.returns-in-Some-clause-member
returns-in-Some-clause-member c = piped_in c.in-Some.k.now c.args.by_pipe.now.keys (first_in_range (c.args.p, 0, 0) c.args.by_pipe.now c.range.result c.next.new.self c.in-Some.k.now c.in-Some.ensures.steps (c.range.ensures.in_range tt)).1

pub returns-in-Some-clause-least : goal.returns-in-Some-clause-least
returns-in-Some-clause-least c = first_from_pipe c.args.p c.args.by_pipe.now c.range.result c.next.new.self c.in-Some.k.now c.in-Some.ensures.steps (c.range.ensures.in_range tt)

pub returns-in-None-clause-none : goal.returns-in-None-clause-none
returns-in-None-clause-none c = none_from_pipe c.args.p c.args.by_pipe.now c.range.result c.in-None.ensures.steps.0 (c.range.ensures.in_range tt)
