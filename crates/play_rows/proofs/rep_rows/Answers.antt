use Rattle.std.proofs.Common.{refl}
use Rattle.sp_base.specs.Print.{ascii}
use Rattle.play_rows.proofs.rep_rows.Goals as goal

pub returns : goal.returns
unfolding ascii
returns c = record { answers_breaks = refl; answers_gives = refl; receives_breaks = refl; receives_gives = refl; nowhere_breaks = refl; nowhere_gives = refl; no_answer_breaks = refl; answers_nothing_breaks = refl; another_reply_breaks = refl; idles_breaks = refl; skips_a_serve_breaks = refl }
