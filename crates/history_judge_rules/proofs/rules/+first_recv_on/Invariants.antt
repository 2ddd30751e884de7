use Rattle.std.proofs.Common.{length}
use Rattle.history_judge_rules.proofs.rules.+first_recv_on.Given as goal

abbrev pub decreases-first_recv_on : goal.decreases-first_recv_on
decreases-first_recv_on l = length l.ss
