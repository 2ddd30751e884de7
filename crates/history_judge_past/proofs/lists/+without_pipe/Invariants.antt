use Rattle.std.proofs.Common.{length}
use Rattle.history_judge_past.proofs.lists.+without_pipe.Given as goal

abbrev pub decreases-without_pipe : goal.decreases-without_pipe
decreases-without_pipe l = length l.pipes
