use Rattle.std.proofs.Common.{◌∙◌}
use Rattle.proto_reqrep.proofs.Orphaned.{left_orphaned}
use Rattle.proto_reqrep.proofs.req.leave_behind.Goals as goal

pub returns-clause-items : goal.returns-clause-items
returns-clause-items c = c.leave_on.ensures.items ∙ left_orphaned c.args.c c.args.waiting.now.items
