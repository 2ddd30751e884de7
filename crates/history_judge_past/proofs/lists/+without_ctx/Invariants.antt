use Rattle.std.proofs.Common.{length}
use Rattle.history_judge_past.proofs.lists.+without_ctx.Given as goal

abbrev pub decreases-without_ctx : goal.decreases-without_ctx
decreases-without_ctx l = length l.contexts
