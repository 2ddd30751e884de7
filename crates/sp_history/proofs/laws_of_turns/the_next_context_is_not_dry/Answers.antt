use Rattle.sp_history.proofs.LiveRequests.{opened_low, next_not_dry}
use Rattle.sp_history.proofs.laws_of_turns.the_next_context_is_not_dry.Goals as goal

pub returns : goal.returns
returns c = record { opened = opened_low; dry = next_not_dry }
