use Rattle.std.proofs.Common.{◌≡◌}
use Rattle.test_real.proofs.links.peers_wake.Given as goal

abbrev pub invariant-loop-turn : goal.invariant-loop-turn
invariant-loop-turn g l = (g.N.Net.seen l.net).listens ≡ (g.N.Net.seen l.fn.net).listens
