use Rattle.std.proofs.Common.{length}
use Rattle.history_judge.proofs.turns.+receives_settled.Given as goal

abbrev pub decreases-receives_settled : goal.decreases-receives_settled
decreases-receives_settled l = length l.ss
