use Rattle.std.proofs.Common.{length}
use Rattle.history_judge.proofs.turns.+requests_settled.Given as goal

abbrev pub decreases-requests_settled : goal.decreases-requests_settled
decreases-requests_settled l = length l.live
