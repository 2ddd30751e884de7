use Rattle.std.proofs.Common.{◌≡◌}
use Rattle.test_real.proofs.nets.listening.Given as goal

abbrev pub invariant-loop-step : goal.invariant-loop-step
invariant-loop-step g l = l.first ≡ l.fn.first
