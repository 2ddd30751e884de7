use Rattle.std.proofs.Common.{refl}
use Rattle.play_rows.proofs.pub_rows.Goals as goal

pub returns : goal.returns
returns c = record { waits_breaks = refl; waits_gives = refl; full_breaks = refl; full_gives = refl; later_breaks = refl; later_gives = refl; falls_away_breaks = refl; falls_away_gives = refl; no_pipe_breaks = refl; idles_breaks = refl; another_text_breaks = refl; leaves_breaks = refl; skips_a_serve_breaks = refl }
