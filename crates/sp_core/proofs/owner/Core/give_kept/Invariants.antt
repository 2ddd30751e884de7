use Rattle.std.proofs.Common.{◌≡◌, []}
use Rattle.sp_history.specs.Moments.{Moment}
use Rattle.sp_core.specs.Owning.{Owns}
use Rattle.sp_core.specs.Serving.{HasOnlyEnded}
use Rattle.sp_core.proofs.owner.Core.give_kept.Given as goal

-- so far receives have ended
abbrev pub invariant-loop : goal.invariant-loop
invariant-loop g l =
    record {
      standing : (t : Moment) × Owns g.P.Proto.ties g.P.Proto.room g.W.Wire.shown [] l.self t;
      reached : (t : Moment) → Owns g.P.Proto.ties g.P.Proto.room g.W.Wire.shown [] l.fn.self t → (u : Moment) × HasOnlyEnded t u × Owns g.P.Proto.ties g.P.Proto.room g.W.Wire.shown [] l.self u;
      words : l.self.op_words.words ≡ l.fn.self.op_words.words;
      pipes : l.self.pipes ≡ l.fn.self.pipes;
    }

abbrev pub decreases-loop : goal.decreases-loop
decreases-loop g l = g.P.Proto.left l.self.proto
