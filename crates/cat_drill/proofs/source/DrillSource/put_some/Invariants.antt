use Rattle.std.proofs.Common.{◌≡◌}
use Rattle.cat_drill.specs.DrillWires.{IsSource}
use Rattle.cat_drill.proofs.source.DrillSource.put_some.Given as goal

abbrev pub invariant-loop : goal.invariant-loop
invariant-loop g l = record { source : IsSource l.self; name : l.self.lane.name ≡ l.fn.self.lane.name }
