use Rattle.std.proofs.Common.{◌-◌, length}
use Rattle.core_state.proofs.PipesInOrder.{NoneBefore}
use Rattle.core_state.proofs.pipes.Pipes.next_above.Given as goal

-- no pipe before this place has a number above
abbrev pub invariant-loop-i : goal.invariant-loop-i
invariant-loop-i g l = NoneBefore g.W.Wire.shown l.fn.self l.i l.fn.p

abbrev pub decreases-loop-i : goal.decreases-loop-i
decreases-loop-i g l = length l.fn.self.places.items - l.i
