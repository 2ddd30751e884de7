use Rattle.std.proofs.Common.{length}
use Rattle.history_judge_past.proofs.past.+by_deadline.Given as goal

abbrev pub decreases-by_deadline : goal.decreases-by_deadline
decreases-by_deadline l = length l.ds
