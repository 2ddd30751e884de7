use Rattle.std.proofs.Common.{length}
use Rattle.history_judge_requests.proofs.requests.+without_orphan_of.Given as goal

abbrev pub decreases-without_orphan_of : goal.decreases-without_orphan_of
decreases-without_orphan_of l = length l.os
