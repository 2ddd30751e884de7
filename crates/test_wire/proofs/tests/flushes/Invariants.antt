use Rattle.std.proofs.Common.{◌≡◌, true}
use Rattle.test_wire.proofs.tests.flushes.Given as goal

abbrev pub invariant-turns : goal.invariant-turns
invariant-turns g l = (g.W.Wire.shown l.wire).is_open ≡ true
