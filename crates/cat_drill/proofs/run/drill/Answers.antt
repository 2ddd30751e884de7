use Rattle.std.proofs.Common.{◌∙◌, ap}
use Rattle.sp_socket.specs.Passes.{new_list}
use Rattle.cat_drill.proofs.DrillBeginning.{pull_setting}
use Rattle.cat_drill.proofs.run.drill.Goals as goal

pub drill_on-requires-clause-list : goal.drill_on-requires-clause-list
drill_on-requires-clause-list g c κs within = c.in-Ok-open.ensures.ok.1 ∙ ap (new_list c.in-Ok-open.socket) (pull_setting c.in-Ok-new.machine c.usual.result c.usual.ensures c.in-Ok-new.ensures)
