use Rattle.std.proofs.Common.{refl}
use Rattle.sp_history.specs.Requests.{after_moment}
use Rattle.play_rows.proofs.spent_rows.Goals as goal

pub returns : goal.returns
unfolding after_moment
returns c = record { first_link = refl; second_link = refl; in_order = refl; but_last = refl; roomy = refl; tries = refl; one_try = refl; idle = refl; pull_late = refl; push_late = refl; survey_late = refl; unbounded = refl; stalled = refl; downs = refl; outs = refl }
