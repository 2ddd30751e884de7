use Rattle.sp_base.specs.SpIpc.{ipc_mark}
use Rattle.sp_base.proofs.MarkedShows.{marked_shows-grows}
use Rattle.sp_base.proofs.laws.ipc_shown_grows.Goals as goal

pub returns : goal.returns
returns c = marked_shows-grows ipc_mark
