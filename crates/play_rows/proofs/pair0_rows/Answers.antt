use Rattle.std.proofs.Common.{refl}
use Rattle.sp_base.specs.Print.{ascii}
use Rattle.play_rows.proofs.pair0_rows.Goals as goal

pub returns : goal.returns
unfolding ascii
returns c = record { sends_breaks = refl; sends_gives = refl; receives_breaks = refl; receives_gives = refl; waits_breaks = refl; waits_gives = refl; answers_breaks = refl; speaks_breaks = refl; idles_breaks = refl; another_text_breaks = refl; other_deadline_breaks = refl }
