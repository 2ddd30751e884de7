use denote.Exit.{yes}
use denote.Param.{param}
use denote.Param.Send.{param_send, arg_send}
use Rattle.cat_drill.proofs.Crossing.{pass_send}
use Rattle.cat_drill.proofs.tasks.in_threads.Goals as goal

pub for_each_mut-requires-send-T : goal.for_each_mut-requires-send-T
for_each_mut-requires-send-T g c κs within = param_send _ _ (arg_send _ yes _ (pass_send (param 0 g.row.P) (param 1 g.row.W) g.P.Proto g.W.Wire c.type_bounds.send-P c.type_bounds.send-W))
