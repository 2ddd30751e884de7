use Rattle.cat_drill.proofs.DrillBeginning.{fed}
use Rattle.cat_drill.proofs.run.drill_on.Goals as goal

pub play-requires-clause-fed : goal.play-requires-clause-fed
play-requires-clause-fed g c κs within = fed _ c.in-Ok.pipe 0 _ c.args.opened.source.lane.name c.requires.name.0 c.args.opened.drill_wire c.four_callers_of-four_callers.result.main c.attach.new.pass (λ z h t x. x.0) c.requires.name.1 c.in-Ok.ensures.turn
