use Rattle.std.proofs.Common.{refl}
use Rattle.play_rows.proofs.more_rows.Goals as goal

pub returns : goal.returns
returns c =
    record {
      one_of_two_breaks = refl;
      the_one_breaks = refl;
      puts_on_later_breaks = refl;
      another_context_breaks = refl;
      takes_off_breaks = refl;
      comes_breaks = refl;
      goes_breaks = refl;
      frames_63_break = refl;
      frames_64_break = refl;
      held_15_breaks = refl;
      held_16_breaks = refl;
      collects_another_breaks = refl;
    }
