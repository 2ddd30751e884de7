use Rattle.sp_base.specs.SpIpc.{ipc_mark}
use Rattle.sp_base.proofs.MarkedShows.{marked_shows-text}
use Rattle.sp_base.proofs.laws.ipc_text_reads_back.Goals as goal

pub returns : goal.returns
returns c = marked_shows-text ipc_mark
