use Rattle.std.proofs.Common.{◌≡◌, true, length}
use Rattle.test_real.proofs.nets.carries.Given as goal

abbrev pub invariant-loop-turn : goal.invariant-loop-turn
invariant-loop-turn g l = record {
  from_open : (g.A.Link.seen l.from).is_open ≡ true;
  from_place : (g.A.Link.seen l.from).place ≡ (g.A.Link.seen l.fn.from).place;
  to_open : (g.B.Link.seen l.to).is_open ≡ true;
  to_place : (g.B.Link.seen l.to).place ≡ (g.B.Link.seen l.fn.to).place;
  room : length l.buffer ≡ length l.fn.buffer;
}
