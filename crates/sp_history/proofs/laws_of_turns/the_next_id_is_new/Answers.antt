use Rattle.sp_history.proofs.LiveRequests.{next_is_new}
use Rattle.sp_history.proofs.laws_of_turns.the_next_id_is_new.Goals as goal

pub returns : goal.returns
returns c = next_is_new
