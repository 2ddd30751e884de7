use Rattle.std.proofs.Common.{◌≡◌, true}
use Rattle.bench_wire.proofs.drain.Given as goal

abbrev pub invariant-pulls : goal.invariant-pulls
invariant-pulls g l = (g.W.Wire.shown l.wire).is_open ≡ true
