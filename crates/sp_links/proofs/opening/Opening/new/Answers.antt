use Rattle.sp_links.proofs.NewOpenings.{fresh}
use Rattle.sp_links.proofs.opening.Opening.new.Goals as goal

pub returns : goal.returns
returns g c = fresh g.L.Link.seen c.args.link c.args.role c.args.way c.in-Ok.own c.nothing.result c.requires.fresh c.in-Ok.ensures c.nothing.ensures
