use Rattle.sp_history.proofs.Apart.{live_inside}
use Rattle.sp_history.proofs.LiveRequests.{outs_are_by}
use Rattle.sp_history.proofs.laws_of_turns.live_requests_stand.Goals as goal

pub returns : goal.returns
returns c = record { open_ = live_inside; outs = outs_are_by }
