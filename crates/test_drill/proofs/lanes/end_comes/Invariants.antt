use Rattle.std.proofs.Common.{◌≡◌, true}
use Rattle.test_drill.proofs.lanes.end_comes.Given as goal

abbrev pub invariant-loop : goal.invariant-loop
invariant-loop g l = record {
  drains : l.wire.wire.drains ≡ true;
  out : l.wire.out.name ≡ l.fn.wire.out.name;
  inp : l.wire.inp ≡ l.fn.wire.inp;
  other : l.other.name ≡ l.fn.other.name;
}
