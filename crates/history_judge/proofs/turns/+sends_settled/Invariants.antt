use Rattle.std.proofs.Common.{length}
use Rattle.history_judge.proofs.turns.+sends_settled.Given as goal

abbrev pub decreases-sends_settled : goal.decreases-sends_settled
decreases-sends_settled l = length l.ss
