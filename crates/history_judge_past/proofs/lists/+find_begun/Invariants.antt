use Rattle.std.proofs.Common.{length}
use Rattle.history_judge_past.proofs.lists.+find_begun.Given as goal

abbrev pub decreases-find_begun : goal.decreases-find_begun
decreases-find_begun l = length l.ss
