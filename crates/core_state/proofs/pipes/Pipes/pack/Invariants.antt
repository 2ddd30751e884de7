use Rattle.std.proofs.Common.{◌≡◌}
use Rattle.core_state.proofs.Packing.{PackedTo, KeepsLimits}
use Rattle.core_state.proofs.pipes.Pipes.pack.Given as goal

-- this many places were not looked at
abbrev pub invariant-loop-left : goal.invariant-loop-left
invariant-loop-left g l =
    record {
      parts : PackedTo l.fn.self.places.items l.self.places.items l.left;
      limits : KeepsLimits l.fn.self.places.items l.self.places.items;
      count : l.self.count ≡ l.fn.self.count;
      down : l.self.down ≡ l.fn.self.down;
      listed : l.self.busy ≡ l.fn.self.busy;
    }

abbrev pub decreases-loop-left : goal.decreases-loop-left
decreases-loop-left g l = l.left
