use Rattle.std.proofs.Common.{length}
use Rattle.history_judge_rules.proofs.sends.+begun_before.Given as goal

abbrev pub decreases-begun_before : goal.decreases-begun_before
decreases-begun_before l = length l.ss
