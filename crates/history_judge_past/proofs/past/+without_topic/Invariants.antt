use Rattle.std.proofs.Common.{length}
use Rattle.history_judge_past.proofs.past.+without_topic.Given as goal

abbrev pub decreases-without_topic : goal.decreases-without_topic
decreases-without_topic l = length l.ts
