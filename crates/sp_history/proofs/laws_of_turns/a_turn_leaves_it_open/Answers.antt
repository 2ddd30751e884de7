use Rattle.sp_history.proofs.OpenOperations.{open_begun, open_after}
use Rattle.sp_history.proofs.laws_of_turns.a_turn_leaves_it_open.Goals as goal

pub returns : goal.returns
returns c = record { begun = open_begun; stays = open_after }
