use Rattle.std.proofs.Common.{ℕ, ◌≡◌, ◌*◌, List, length}
use Rattle.aio_expire.specs.declared.deadlines.Deadline.{Deadline}
use Rattle.aio_expire.specs.DueCalls.{AreAllowed}
use Rattle.test_base.proofs.deadline_calls.drawn_calls.Given as goal

abbrev pub invariant-loop : goal.invariant-loop
invariant-loop l = ((es : List Deadline) → AreAllowed 64 l.calls.items es) × (length l.calls.items ≡ 2 * l.counter)
