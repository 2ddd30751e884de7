use Rattle.sp_history.proofs.LastBegun.{last_begun}
use Rattle.sp_history.proofs.laws_of_turns.the_last_of_a_slot_was_begun.Goals as goal

pub returns : goal.returns
returns c = last_begun
