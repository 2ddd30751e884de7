use Rattle.std.proofs.Common.{rules}
use Rattle.cat_drill.proofs.drill_wire.DrillWire.into_lane.Goals as goal

pub returns-clause-name : goal.returns-clause-name
returns-clause-name c = (c.self.inside.wire.out.name, search (c.self.view_is, c.self.invariant.name, c.into_halves-inp.ensures.inp, rules))
