use Rattle.std.proofs.Common.{refl}
use Rattle.sp_base.specs.Print.{ascii}
use Rattle.sp_history.specs.Requests.{after_moment}
use Rattle.play_rows.proofs.surveyor_rows.Goals as goal

pub returns : goal.returns
unfolding after_moment ascii
returns c = record { survey_breaks = refl; survey_gives = refl; found_over_breaks = refl; found_over_gives = refl; nobody_breaks = refl; nobody_gives = refl; sends_on_breaks = refl; no_pipe_breaks = refl; idles_breaks = refl; rests_breaks = refl; another_text_breaks = refl; leaves_breaks = refl }
