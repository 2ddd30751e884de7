use Rattle.std.proofs.Common.{refl}
use Rattle.sp_base.specs.Print.{ascii}
use Rattle.play_rows.proofs.bus_rows.Goals as goal

pub returns : goal.returns
unfolding ascii
returns c = record { interval_breaks = refl; interval_gives = refl; receives_breaks = refl; receives_gives = refl; waits_breaks = refl; waits_gives = refl; no_pipe_breaks = refl; too_soon_breaks = refl; answers_breaks = refl; idles_breaks = refl; skips_a_serve_breaks = refl }
