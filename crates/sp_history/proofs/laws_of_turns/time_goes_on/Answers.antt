use Rattle.sp_history.proofs.StandingEntries.{last_is_now, ticks_in_order, earlier_in_order}
use Rattle.sp_history.proofs.laws_of_turns.time_goes_on.Goals as goal

pub returns : goal.returns
returns c = record { now = last_is_now; ticks = ticks_in_order; earlier = earlier_in_order }
