use Rattle.std.proofs.Common.{length}
use Rattle.history_judge_requests.proofs.kept.+not_from.Given as goal

abbrev pub decreases-not_from : goal.decreases-not_from
decreases-not_from l = length l.items
