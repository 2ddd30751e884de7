use Rattle.std.proofs.Common.{refl, inl}
use Rattle.sp_upgrade.specs.Opening.{GoodResponse, BadResponse}
use Rattle.sp_upgrade.proofs.HeadEnds.{of_all, has_head, no_blank_long}
use Rattle.sp_upgrade.proofs.client.client_answer.Goals as goal

pub returns-in-Some : goal.returns-in-Some
returns-in-Some c = of_all (GoodResponse c.args.role c.args.key.now) (BadResponse c.args.role c.args.key.now) c.read_response.result c.args.came.now _ (has_head c.args.came.now c.min.result c.in-Some.used c.min.ensures c.in-Some.ensures) c.read_response.ensures

pub returns-in-None-2 : goal.returns-in-None-2
returns-in-None-2 c = inl (refl, no_blank_long c.args.came.now c.min.result c.min.ensures c.if-came-lt-MOST.false c.in-None-2.ensures)
