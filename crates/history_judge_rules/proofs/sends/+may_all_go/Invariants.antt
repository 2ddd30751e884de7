use Rattle.std.proofs.Common.{length}
use Rattle.history_judge_rules.proofs.sends.+may_all_go.Given as goal

abbrev pub decreases-may_all_go : goal.decreases-may_all_go
decreases-may_all_go l = length l.pipes
