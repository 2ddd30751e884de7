use Rattle.std.proofs.Common.{◌≡◌, ◌≤◌, ◌+◌, Bool, length, take}
use Rattle.std.specs.Prelude.{vec_capacity, vec_len}
use Rattle.aio_expire.specs.declared.deadlines.Deadline.{Deadline}
use Rattle.aio_expire.specs.Schedule.{tally}
use Rattle.aio_expire.specs.SlotEntries.{AreApart, AreOwn, count_cells}
use Rattle.aio_expire.proofs.turning.put_back.Given as goal

abbrev pub invariant-loop-pulled : goal.invariant-loop-pulled
invariant-loop-pulled l = record {
  left : l.pulled.items ≡ take (length l.pulled.items) l.fn.pulled.items;
  some : l.count ≤ length l.pulled.items;
  own : AreOwn l.by_slot.cells;
  apart : AreApart l.by_slot l.pulled.items;
  back : (p : Deadline → Bool) → tally p l.pulled.items + count_cells p l.by_slot.cells ≡ tally p l.fn.pulled.items + count_cells p l.fn.by_slot.cells;
  slots : length l.by_slot.cells ≡ length l.fn.by_slot.cells;
  turned : l.by_slot.turned ≡ l.fn.by_slot.turned;
  room : vec_capacity l.pulled ≡ vec_capacity l.fn.pulled;
}

abbrev pub decreases-loop-pulled : goal.decreases-loop-pulled
decreases-loop-pulled l = vec_len l.pulled
