use Rattle.std.proofs.Common.{◌≡◌, true, length}
use Rattle.test_real.proofs.links.drained.Given as goal

abbrev pub invariant-loop-turn : goal.invariant-loop-turn
invariant-loop-turn g l = record {
  is_open : (g.L.Link.seen l.link).is_open ≡ true;
  place : (g.L.Link.seen l.link).place ≡ (g.L.Link.seen l.fn.link).place;
  room : length l.buffer ≡ length l.fn.buffer;
}
