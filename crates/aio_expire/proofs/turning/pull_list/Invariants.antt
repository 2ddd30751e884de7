use Rattle.std.proofs.Common.{◌≡◌, true}
use Rattle.std.specs.Prelude.{vec_capacity}
use Rattle.aio_expire.specs.SlotEntries.{IsPulled, count_cells}
use Rattle.aio_expire.proofs.turning.pull_list.Given as goal

abbrev pub invariant-loop-slot : goal.invariant-loop-slot
invariant-loop-slot l = record {
  pulled : IsPulled l.fn.by_slot l.fn.pulled.items l.by_slot l.pulled.items;
  room : vec_capacity l.pulled ≡ vec_capacity l.fn.pulled;
}

abbrev pub decreases-loop-slot : goal.decreases-loop-slot
decreases-loop-slot l = count_cells (λ d. true) l.by_slot.cells
