use Rattle.sp_base.proofs.Shows.{shows-text}
use Rattle.sp_base.proofs.laws.text_reads_back.Goals as goal

pub returns : goal.returns
returns c = shows-text
