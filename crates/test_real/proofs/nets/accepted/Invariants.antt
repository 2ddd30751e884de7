use Rattle.std.proofs.Common.{◌≡◌, ◌≤◌}
use Rattle.test_real.proofs.nets.accepted.Given as goal

abbrev pub invariant-loop-turn : goal.invariant-loop-turn
invariant-loop-turn g l = record {
  listens : (g.N.Net.seen l.net).listens ≡ (g.N.Net.seen l.fn.net).listens;
  opened : (g.N.Net.seen l.fn.net).opened ≤ (g.N.Net.seen l.net).opened;
}
