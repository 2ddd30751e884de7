use Rattle.std.proofs.Common.{refl}
use Rattle.sp_base.specs.Print.{ascii}
use Rattle.play_rows.proofs.sub_rows.Goals as goal

pub returns : goal.returns
unfolding ascii
returns c = record { topic_breaks = refl; topic_gives = refl; all_breaks = refl; all_gives = refl; two_breaks = refl; two_gives = refl; no_topic_breaks = refl; more_topics_breaks = refl; late_topic_breaks = refl; context_breaks = refl; idles_breaks = refl; long_deadline_breaks = refl }
