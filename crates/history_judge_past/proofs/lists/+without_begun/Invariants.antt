use Rattle.std.proofs.Common.{length}
use Rattle.history_judge_past.proofs.lists.+without_begun.Given as goal

abbrev pub decreases-without_begun : goal.decreases-without_begun
decreases-without_begun l = length l.ss
