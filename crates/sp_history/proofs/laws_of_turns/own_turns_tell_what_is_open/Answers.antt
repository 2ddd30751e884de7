use Rattle.sp_history.proofs.OpenOperations.{open_in_both}
use Rattle.sp_history.proofs.laws_of_turns.own_turns_tell_what_is_open.Goals as goal

pub returns : goal.returns
returns c = open_in_both
