use Rattle.std.proofs.Common.{length}
use Rattle.history_judge_requests.proofs.requests.+over_ctxs.Given as goal

abbrev pub decreases-over_ctxs : goal.decreases-over_ctxs
decreases-over_ctxs l = length l.live
