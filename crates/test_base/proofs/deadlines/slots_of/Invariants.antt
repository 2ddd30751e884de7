use Rattle.std.proofs.Common.{ℕ, ◌≡◌, Some}
use Rattle.aio_expire.specs.Buckets.{IsListed}
use Rattle.test_base.proofs.deadlines.slots_of.Given as goal

abbrev pub invariant-loop : goal.invariant-loop
invariant-loop l = (s : ℕ) → l.at ≡ Some s → IsListed s l.wheel.lists
