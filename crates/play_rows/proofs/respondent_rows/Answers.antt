use Rattle.std.proofs.Common.{refl}
use Rattle.sp_base.specs.Print.{ascii}
use Rattle.play_rows.proofs.respondent_rows.Goals as goal

pub returns : goal.returns
unfolding ascii
returns c = record { answers_breaks = refl; answers_gives = refl; receives_breaks = refl; receives_gives = refl; interval_breaks = refl; interval_gives = refl; no_answer_breaks = refl; too_soon_breaks = refl; another_reply_breaks = refl; idles_breaks = refl; two_at_once_breaks = refl }
