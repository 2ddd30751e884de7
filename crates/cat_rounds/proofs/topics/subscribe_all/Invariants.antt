use Rattle.std.proofs.Common.{take}
use Rattle.sp_history.specs.Past.{past_of}
use Rattle.cat_rounds.specs.Lasting.{AreOn}
use Rattle.cat_rounds.specs.SubscribedTopics.{Prepares}
use Rattle.cat_rounds.proofs.topics.subscribe_all.Given as goal

abbrev pub invariant-loop-topic : goal.invariant-loop-topic
invariant-loop-topic g l = record {
  prepares : Prepares l.fn.single l.single l.player;
  on : AreOn (take l.topic-index l.player.script.topics) (past_of l.single.seen);
}
