use Rattle.std.proofs.Common.{length}
use Rattle.history_judge_requests.proofs.kept.+still_wanted.Given as goal

abbrev pub decreases-still_wanted : goal.decreases-still_wanted
decreases-still_wanted l = length l.items
