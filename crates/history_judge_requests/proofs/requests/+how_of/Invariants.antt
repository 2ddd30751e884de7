use Rattle.std.proofs.Common.{length}
use Rattle.history_judge_requests.proofs.requests.+how_of.Given as goal

abbrev pub decreases-how_of : goal.decreases-how_of
decreases-how_of l = length l.os
