use Rattle.std.proofs.Common.{refl}
use Rattle.sp_base.specs.Print.{ascii}
use Rattle.sp_history.specs.Requests.{after_moment}
use Rattle.play_rows.proofs.req_rows.Goals as goal

pub returns : goal.returns
unfolding after_moment ascii
returns c = record { asks_breaks = refl; asks_gives = refl; asks_twice_breaks = refl; asks_twice_gives = refl; times_out_breaks = refl; times_out_gives = refl; asks_on_breaks = refl; idles_breaks = refl; another_text_breaks = refl; leaves_breaks = refl; other_deadline_breaks = refl }
