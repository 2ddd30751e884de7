use Rattle.std.proofs.Common.{◌∙◌, sym}
use Rattle.proto_reqrep.proofs.Offering.{some_as, searched_due}
use Rattle.proto_reqrep.proofs.RequestsDue.{due_found}
use Rattle.proto_reqrep.proofs.req.Request.next_due.Goals as goal

pub returns-then-not-is_whole-clause-seen : goal.returns-then-not-is_whole-clause-seen
returns-then-not-is_whole-clause-seen c = λ last a h. c.search_due.ensures.seen last h

pub returns-then-not-is_whole-clause-due : goal.returns-then-not-is_whole-clause-due
returns-then-not-is_whole-clause-due c = λ a. some_as _ _ c.search_due.result (λ x k. searched_due c.args.self.now x a k) c.search_due.ensures.due

pub returns-clause-due : goal.returns-clause-due
returns-clause-due c = λ a. some_as _ _ c.next_looked.result (λ x k. due_found c.args.self.now x k) c.next_looked.ensures.due

pub returns-clause-none : goal.returns-clause-none
returns-clause-none c = λ last a h. c.next_looked.ensures.none last a h (sym c.is_whole.ensures ∙ c.if-not-is_whole.false)
