use Rattle.std.proofs.Common.{◌≤◌, ℕ, List, ◌++◌, ◌-◌, vec_capacity}
use Rattle.core_state.specs.OperationsStand.{AreAllSlots}
use Rattle.core_state.proofs.operations.all_slots.Given as goal

abbrev pub invariant-loop-i : goal.invariant-loop-i
invariant-loop-i l = record {
  slots : (rest : List ℕ) → AreAllSlots (l.slots - l.i) rest → AreAllSlots l.slots (l.free.items ++ rest);
  room : l.slots ≤ vec_capacity l.free;
}
