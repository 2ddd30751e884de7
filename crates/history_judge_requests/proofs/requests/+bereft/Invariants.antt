use Rattle.std.proofs.Common.{length}
use Rattle.history_judge_requests.proofs.requests.+bereft.Given as goal

abbrev pub decreases-bereft : goal.decreases-bereft
decreases-bereft l = length l.ss
