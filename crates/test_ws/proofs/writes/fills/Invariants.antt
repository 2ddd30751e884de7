use Rattle.std.proofs.Common.{◌≡◌, ◌≤◌, true}
use Rattle.test_ws.proofs.writes.fills.Given as goal

abbrev pub invariant-loop : goal.invariant-loop
invariant-loop g l = (l.wire.wire.is_open ≡ true) × (l.count ≤ l.counter)
