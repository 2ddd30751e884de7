use Rattle.std.proofs.Common.{◌≡◌}
use Rattle.std.specs.Prelude.{vec_capacity}
use Rattle.aio_expire.specs.SlotEntries.{IsPulled, AreEmpty}
use Rattle.aio_expire.proofs.turning.pull_lists.Given as goal

abbrev pub invariant-loop-bucket : goal.invariant-loop-bucket
invariant-loop-bucket l = record {
  pulled : IsPulled l.fn.by_slot l.fn.pulled.items l.by_slot l.pulled.items;
  empty : AreEmpty l.low l.bucket l.by_slot;
  room : vec_capacity l.pulled ≡ vec_capacity l.fn.pulled;
}
