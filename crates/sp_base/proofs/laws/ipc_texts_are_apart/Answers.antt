use Rattle.sp_base.specs.SpIpc.{ipc_mark}
use Rattle.sp_base.proofs.MarkedShows.{marked_texts-apart}
use Rattle.sp_base.proofs.laws.ipc_texts_are_apart.Goals as goal

pub returns : goal.returns
returns c = marked_texts-apart ipc_mark
