use Rattle.std.proofs.Common.{length}
use Rattle.history_judge_past.proofs.past.+without_ended.Given as goal

abbrev pub decreases-without_ended : goal.decreases-without_ended
decreases-without_ended l = length l.es
