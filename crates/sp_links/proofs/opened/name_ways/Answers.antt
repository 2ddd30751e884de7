use Rattle.sp_links.proofs.WayNumbers.{one_way}
use Rattle.sp_links.proofs.opened.name_ways.Goals as goal

pub returns : goal.returns
returns c = one_way
