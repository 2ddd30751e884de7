use Rattle.std.proofs.Common.{length}
use Rattle.history_judge_requests.proofs.requests.+orphans_of.Given as goal

abbrev pub decreases-orphans_of : goal.decreases-orphans_of
decreases-orphans_of l = length l.ss
