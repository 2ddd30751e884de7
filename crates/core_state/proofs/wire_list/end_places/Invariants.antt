use Rattle.std.proofs.Common.{◌≡◌, [], length}
use Rattle.core_state.specs.Pipes.{held}
use Rattle.core_state.proofs.wire_list.end_places.Given as goal

-- all places are empty
abbrev pub invariant-loop-wire : goal.invariant-loop-wire
invariant-loop-wire g l = held l.places.items ≡ []

abbrev pub decreases-loop-wire : goal.decreases-loop-wire
decreases-loop-wire g l = length l.places.items
