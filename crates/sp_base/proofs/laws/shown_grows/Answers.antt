use Rattle.sp_base.proofs.Shows.{shows-grows}
use Rattle.sp_base.proofs.laws.shown_grows.Goals as goal

pub returns : goal.returns
returns c = shows-grows
