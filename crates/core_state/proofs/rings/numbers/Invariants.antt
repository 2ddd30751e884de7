use Rattle.core_state.specs.Rings.{AreAlone}
use Rattle.core_state.proofs.rings.numbers.Given as goal

abbrev pub invariant-loop-place : goal.invariant-loop-place
invariant-loop-place l = AreAlone l.place l.numbers.items
