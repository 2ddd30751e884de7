use Rattle.sp_history.proofs.StandingEntries.{begin_is_found, end_is_found}
use Rattle.sp_history.proofs.laws_of_turns.what_stands_is_found.Goals as goal

pub returns : goal.returns
returns c = record { begins = begin_is_found; ends = end_is_found }
