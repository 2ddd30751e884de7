use Rattle.std.proofs.Common.{[]}
use Rattle.cat_drill.specs.Calling.{AreFourCallers}
use Rattle.cat_drill.specs.DrillWires.{IsSource}
use Rattle.test_drill.proofs.plays.calls_on.Given as goal

abbrev pub invariant-loop-line : goal.invariant-loop-line
invariant-loop-line g l = record {
  callers : AreFourCallers l.socket l.it.main l.it.two l.it.three l.it.four [];
  source : IsSource l.source;
}
