use Rattle.sp_history.proofs.SilentPipes.{down_is_silent, down_stays}
use Rattle.sp_history.proofs.laws_of_turns.a_pipe_that_is_down_is_silent.Goals as goal

pub returns : goal.returns
returns c = record { silent = down_is_silent; down = down_stays }
