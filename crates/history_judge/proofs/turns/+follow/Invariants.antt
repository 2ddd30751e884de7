use Rattle.std.proofs.Common.{length}
use Rattle.history_judge.proofs.turns.+follow.Given as goal

abbrev pub decreases-follow : goal.decreases-follow
decreases-follow l = length l.entries
