use Rattle.std.proofs.Common.{◌≡◌, []}
use Rattle.cat_drill.specs.Calling.{AreFourCallers, Later}
use Rattle.cat_drill.specs.DrillWires.{IsSource}
use Rattle.cat_drill.proofs.rounds.rounds.Given as goal

abbrev pub invariant-loop-n : goal.invariant-loop-n
invariant-loop-n g l = record {
  four_callers : AreFourCallers l.socket l.four_callers.main l.four_callers.two l.four_callers.three l.four_callers.four [];
  later : Later l.fn.four_callers.main l.four_callers.main;
  source : IsSource l.source;
  name : l.source.lane.name ≡ l.fn.source.lane.name;
}
