use Rattle.std.proofs.Common.{length}
use Rattle.history_judge_rules.proofs.sends.+any_for.Given as goal

abbrev pub decreases-any_for : goal.decreases-any_for
decreases-any_for l = length l.ss
