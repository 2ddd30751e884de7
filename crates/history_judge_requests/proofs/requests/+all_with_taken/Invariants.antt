use Rattle.std.proofs.Common.{length}
use Rattle.history_judge_requests.proofs.requests.+all_with_taken.Given as goal

abbrev pub decreases-all_with_taken : goal.decreases-all_with_taken
decreases-all_with_taken l = length l.live
