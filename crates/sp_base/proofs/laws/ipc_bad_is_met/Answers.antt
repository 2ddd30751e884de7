use Rattle.sp_base.proofs.MarkedShows.{ipc_bad-is}
use Rattle.sp_base.proofs.laws.ipc_bad_is_met.Goals as goal

pub returns : goal.returns
returns c = ipc_bad-is
