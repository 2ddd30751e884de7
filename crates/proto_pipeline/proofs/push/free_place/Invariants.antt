use Rattle.std.proofs.Common.{◌≡◌, ◌≤◌, ◌<◌, ◌-◌, ℕ, true, length, slice_index_or}
use Rattle.proto_pipeline.specs.declared.push.Port.{Port}
use Rattle.proto_pipeline.proofs.push.free_place.Given as goal

abbrev pub invariant-loop-i : goal.invariant-loop-i
invariant-loop-i l =
    (l.from ≤ l.i) × (l.from ≤ length l.ports.items → l.i ≤ length l.ports.items) × ((k : ℕ) (d : Port) → l.from ≤ k → k < l.i → (slice_index_or l.ports.items k d).is_full ≡ true)

abbrev pub decreases-loop-i : goal.decreases-loop-i
decreases-loop-i l = length l.ports.items - l.i
