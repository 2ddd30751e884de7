use Rattle.std.proofs.Common.{length}
use Rattle.history_judge_requests.proofs.requests.+all_with_out.Given as goal

abbrev pub decreases-all_with_out : goal.decreases-all_with_out
decreases-all_with_out l = length l.live
