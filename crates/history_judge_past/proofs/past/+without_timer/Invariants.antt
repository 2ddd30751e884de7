use Rattle.std.proofs.Common.{length}
use Rattle.history_judge_past.proofs.past.+without_timer.Given as goal

abbrev pub decreases-without_timer : goal.decreases-without_timer
decreases-without_timer l = length l.ds
