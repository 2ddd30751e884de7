use Rattle.std.proofs.Common.{length}
use Rattle.history_judge_past.proofs.past.+ops_of.Given as goal

abbrev pub decreases-ops_of : goal.decreases-ops_of
decreases-ops_of l = length l.ds
