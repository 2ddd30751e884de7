use Rattle.std.proofs.Common.{length}
use Rattle.history_judge_requests.proofs.requests.+all_with_frame.Given as goal

abbrev pub decreases-all_with_frame : goal.decreases-all_with_frame
decreases-all_with_frame l = length l.live
