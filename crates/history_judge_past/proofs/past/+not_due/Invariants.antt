use Rattle.std.proofs.Common.{length}
use Rattle.history_judge_past.proofs.past.+not_due.Given as goal

abbrev pub decreases-not_due : goal.decreases-not_due
decreases-not_due l = length l.ds
