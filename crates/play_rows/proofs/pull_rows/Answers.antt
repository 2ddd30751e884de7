use Rattle.std.proofs.Common.{refl}
use Rattle.sp_base.specs.Print.{ascii}
use Rattle.play_rows.proofs.pull_rows.Goals as goal

pub returns : goal.returns
unfolding ascii
returns c = record { one_breaks = refl; one_gives = refl; waits_breaks = refl; waits_gives = refl; times_out_breaks = refl; times_out_gives = refl; called_off_breaks = refl; called_off_gives = refl; collected_late_breaks = refl; collected_late_gives = refl; last_deadline_breaks = refl; last_deadline_gives = refl; two_ticks_breaks = refl; no_turn_breaks = refl; idles_breaks = refl; leaves_breaks = refl; skips_a_serve_breaks = refl; two_at_once_breaks = refl; goes_on_breaks = refl; short_deadline_breaks = refl; cancels_breaks = refl; fails_there = refl; ticks_after = refl; begins_after = refl; collects_after = refl; collects_none = refl }
