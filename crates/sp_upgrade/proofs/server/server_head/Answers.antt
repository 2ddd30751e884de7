use Rattle.std.proofs.Common.{refl, inl}
use Rattle.sp_upgrade.specs.Opening.{GoodRequest, BadRequest}
use Rattle.sp_upgrade.proofs.HeadEnds.{of_all, has_head, no_blank_long}
use Rattle.sp_upgrade.proofs.server.server_head.Goals as goal

pub returns-in-Some : goal.returns-in-Some
returns-in-Some c = of_all (GoodRequest c.args.role c.args.path.now) (BadRequest c.args.role c.args.path.now) c.read_request.result c.args.came.now _ (has_head c.args.came.now c.min.result c.in-Some.used c.min.ensures c.in-Some.ensures) c.read_request.ensures

pub returns-in-None-2 : goal.returns-in-None-2
returns-in-None-2 c = inl (refl, no_blank_long c.args.came.now c.min.result c.min.ensures c.if-came-lt-MOST.false c.in-None-2.ensures)
