use Rattle.std.proofs.Common.{◌∙◌, ap}
use Rattle.sp_socket.specs.Passes.{new_list}
use Rattle.test_drill.proofs.Racing.{new_setting}
use Rattle.test_drill.proofs.plays.wrong_line.Goals as goal

pub plays_on-requires-clause-list : goal.plays_on-requires-clause-list
plays_on-requires-clause-list g c κs within = c.in-Ok-open.ensures.ok.1 ∙ ap (new_list c.in-Ok-open.socket) (new_setting c.in-Ok.machine c.usual.result c.usual.ensures c.in-Ok.ensures)
