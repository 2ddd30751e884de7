use Rattle.std.proofs.Common.{length}
use Rattle.history_judge_past.proofs.past.+due.Given as goal

abbrev pub decreases-due : goal.decreases-due
decreases-due l = length l.ds
