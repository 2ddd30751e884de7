use Rattle.std.proofs.Common.{length}
use Rattle.history_judge_requests.proofs.requests.+not_on.Given as goal

abbrev pub decreases-not_on : goal.decreases-not_on
decreases-not_on l = length l.live
