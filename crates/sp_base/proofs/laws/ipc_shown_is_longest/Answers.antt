use Rattle.sp_base.specs.SpIpc.{ipc_mark}
use Rattle.sp_base.proofs.MarkedShows.{marked_shows-longest}
use Rattle.sp_base.proofs.laws.ipc_shown_is_longest.Goals as goal

pub returns : goal.returns
returns c = marked_shows-longest ipc_mark
