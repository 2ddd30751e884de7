use Rattle.std.proofs.Common.{◌≡◌, true}
use Rattle.bench_wire.proofs.fill.Given as goal

abbrev pub invariant-puts : goal.invariant-puts
invariant-puts g l = (g.W.Wire.shown l.wire).is_open ≡ true
