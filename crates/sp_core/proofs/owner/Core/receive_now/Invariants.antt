use Rattle.std.proofs.Common.{◌≡◌, []}
use Rattle.sp_history.specs.Moments.{Moment}
use Rattle.sp_core.specs.Immediate.{LostTo}
use Rattle.sp_core.specs.Looking.{reads_of}
use Rattle.core_state.specs.Reads.{Grows}
use Rattle.sp_core.specs.Owning.{Owns}
use Rattle.sp_core.specs.Standing.{IsSettled}
use Rattle.sp_core.proofs.owner.Core.receive_now.Given as goal

-- the turn is settled, and receives were lost since it began
abbrev pub invariant-loop : goal.invariant-loop
invariant-loop g l =
    record {
      can : (goal.iterator-loop g).can_next l.iterator';
      finite : (goal.iterator-loop g).is_finite l.iterator';
      standing : (t : Moment) × Owns g.P.Proto.ties g.P.Proto.room g.W.Wire.shown [] l.self t × IsSettled t;
      reached : (t : Moment) → Owns g.P.Proto.ties g.P.Proto.room g.W.Wire.shown [] l.fn.self t → IsSettled t → (u : Moment) × LostTo l.fn.c t u × Owns g.P.Proto.ties g.P.Proto.room g.W.Wire.shown [] l.self u × IsSettled u;
      words : l.self.op_words.words ≡ l.fn.self.op_words.words;
      reads : Grows (reads_of l.fn.self) (reads_of l.self);
    }
