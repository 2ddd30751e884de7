use Rattle.sp_history.proofs.Slots.{no_slot_means, no_slot_where}
use Rattle.sp_history.proofs.laws_of_turns.slots_are_taken.Goals as goal

pub returns : goal.returns
returns c = record { means = no_slot_means; enough = no_slot_where }
