use Rattle.sp_history.proofs.QuietTurns.{nothing_out}
use Rattle.sp_history.proofs.laws_of_turns.nothing_goes_out_by_itself.Goals as goal

pub returns : goal.returns
returns c = nothing_out
