use Rattle.std.proofs.Common.{◌≡◌, None, replicate}
use Rattle.core_state.proofs.operations.no_outcomes.Given as goal

abbrev pub invariant-loop : goal.invariant-loop
invariant-loop l = l.done.items ≡ replicate l.counter None
