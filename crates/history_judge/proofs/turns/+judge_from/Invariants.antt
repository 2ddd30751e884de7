use Rattle.std.proofs.Common.{length}
use Rattle.history_judge.proofs.turns.+judge_from.Given as goal

abbrev pub decreases-judge_from : goal.decreases-judge_from
decreases-judge_from l = length l.turns
