use Rattle.std.proofs.Common.{◌≡◌}
use Rattle.test_drill.proofs.lanes.wrong_line.Given as goal

abbrev pub invariant-loop-line : goal.invariant-loop-line
invariant-loop-line g l = record {
  input : l.input.name ≡ l.fn.input.name;
  output : l.output.name ≡ l.fn.output.name;
}
