use Rattle.std.proofs.Common.{◌≡◌}
use Rattle.test_drill.proofs.lanes.is_filled.Given as goal

abbrev pub invariant-loop-n : goal.invariant-loop-n
invariant-loop-n g l = l.input.name ≡ l.fn.input.name
