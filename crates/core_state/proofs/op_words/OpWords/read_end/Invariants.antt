use Rattle.aio_word.specs.Sight.{IsSameSeat}
use Rattle.std.proofs.Common.{◌≡◌, false}
use Rattle.core_state.proofs.Readings.{Grew, GrewStale}
use Rattle.core_state.proofs.op_words.OpWords.read_end.Given as goal

-- the seat has read of the slot only what shows no end of the operation
abbrev pub invariant-loop : goal.invariant-loop
invariant-loop g l =
    record {
      can : (goal.iterator-loop g).can_next l.iterator';
      finite : (goal.iterator-loop g).is_finite l.iterator';
      seat : IsSameSeat l.fn.seat l.seat;
      grew : Grew l.fn.op l.fn.seat.view l.seat.view;
      stale : l.fn.known ≡ false → GrewStale l.fn.op l.fn.seat.view l.seat.view;
    }
