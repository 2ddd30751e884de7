use Rattle.sp_base.proofs.Shows.{texts-apart}
use Rattle.sp_base.proofs.laws.texts_are_apart.Goals as goal

pub returns : goal.returns
returns c = texts-apart
