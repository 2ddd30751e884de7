use Rattle.sp_history.proofs.Limits.{limit_begins, limit_next, limit_turn}
use Rattle.sp_history.proofs.laws.limits_stay.Goals as goal

pub returns : goal.returns
returns c = record { begins = limit_begins; one_entry = limit_next; turn = limit_turn }
