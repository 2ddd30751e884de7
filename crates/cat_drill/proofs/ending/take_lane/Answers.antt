use Rattle.cat_drill.proofs.EndOfDrill.{lane_came}
use Rattle.cat_drill.proofs.ending.take_lane.Goals as goal

pub returns : goal.returns
returns g c = let e = c.in_ok-drill_wire.ensures in lane_came c.args.pipe e.1.0 c.in_ok-drill_wire.drill_wire e.0 c.args.wires c.into_lane.result e.1.1 c.into_lane.ensures.came c.into_lane.ensures.name
