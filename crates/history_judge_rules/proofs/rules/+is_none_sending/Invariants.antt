use Rattle.std.proofs.Common.{length}
use Rattle.history_judge_rules.proofs.rules.+is_none_sending.Given as goal

abbrev pub decreases-is_none_sending : goal.decreases-is_none_sending
decreases-is_none_sending l = length l.ss
