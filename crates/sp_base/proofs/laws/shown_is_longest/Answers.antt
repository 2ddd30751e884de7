use Rattle.sp_base.proofs.Shows.{shows-longest}
use Rattle.sp_base.proofs.laws.shown_is_longest.Goals as goal

pub returns : goal.returns
returns c = shows-longest
