use Rattle.std.proofs.Common.{◌≡◌, ◌≤◌, length, []}
use Rattle.sp_history.specs.Moments.{Moment}
use Rattle.sp_core.specs.Owning.{Owns}
use Rattle.sp_core.proofs.owner.Core.unlist.Given as goal

-- the list has at least this many
abbrev pub invariant-loop-count : goal.invariant-loop-count
invariant-loop-count g l =
    record {
      standing : (t : Moment) × Owns g.P.Proto.ties g.P.Proto.room g.W.Wire.shown [] l.self t;
      reached : (t : Moment) → Owns g.P.Proto.ties g.P.Proto.room g.W.Wire.shown [] l.fn.self t → Owns g.P.Proto.ties g.P.Proto.room g.W.Wire.shown [] l.self t;
      long : l.count ≤ length l.self.pipes.busy.items;
      words : l.self.op_words.words ≡ l.fn.self.op_words.words;
    }

abbrev pub decreases-loop-count : goal.decreases-loop-count
decreases-loop-count g l = l.count
