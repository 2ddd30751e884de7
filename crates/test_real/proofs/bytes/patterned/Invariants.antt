use Rattle.std.proofs.Common.{◌≡◌, length}
use Rattle.test_real.proofs.bytes.patterned.Given as goal

abbrev pub invariant-loop-at : goal.invariant-loop-at
invariant-loop-at l = length l.bytes.items ≡ l.at
