use Rattle.std.proofs.Common.{refl}
use Rattle.play_rows.proofs.push_rows.Goals as goal

pub returns : goal.returns
returns c = record { twice_breaks = refl; twice_gives = refl; waits_breaks = refl; waits_gives = refl; times_out_breaks = refl; times_out_gives = refl; interval_breaks = refl; interval_gives = refl; another_text_breaks = refl; header_breaks = refl; too_soon_breaks = refl; too_late_breaks = refl; no_deadline_breaks = refl; goes_on_breaks = refl }
