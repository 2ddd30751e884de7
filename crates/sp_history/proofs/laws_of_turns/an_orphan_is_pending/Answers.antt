use Rattle.sp_history.proofs.Orphans.{orphan_is_pending}
use Rattle.sp_history.proofs.laws_of_turns.an_orphan_is_pending.Goals as goal

pub returns : goal.returns
returns c = orphan_is_pending
