use Rattle.std.proofs.Common.{length}
use Rattle.history_judge_rules.proofs.sends.+any_again.Given as goal

abbrev pub decreases-any_again : goal.decreases-any_again
decreases-any_again l = length l.live
