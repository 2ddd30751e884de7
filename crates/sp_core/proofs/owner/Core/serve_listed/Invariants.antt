use Rattle.std.proofs.Common.{◌≡◌, ℕ, List, []}
use Rattle.sp_history.specs.Moments.{Moment}
use Rattle.sp_core.specs.Owning.{Owns}
use Rattle.sp_core.proofs.BusyServed.{Asking}
use Rattle.sp_core.proofs.owner.Core.serve_listed.Given as goal

-- this many of the list were not looked at
abbrev pub invariant-loop-left : goal.invariant-loop-left
invariant-loop-left g l =
    record {
      standing : (s : Moment) × (t : Moment) × (asked : List ℕ) × (rest : List ℕ) × Asking l.fn.most l.waiting l.left l.self.pipes asked rest s t × Owns g.P.Proto.ties g.P.Proto.room g.W.Wire.shown [] l.self t;
      reached : (s : Moment) → Owns g.P.Proto.ties g.P.Proto.room g.W.Wire.shown [] l.fn.self s → s.turn ≡ [] → (t : Moment) × (asked : List ℕ) × (rest : List ℕ) × Asking l.fn.most l.waiting l.left l.self.pipes asked rest s t × Owns g.P.Proto.ties g.P.Proto.room g.W.Wire.shown [] l.self t;
      words : l.self.op_words.words ≡ l.fn.self.op_words.words;
    }

abbrev pub decreases-loop-left : goal.decreases-loop-left
decreases-loop-left g l = l.left
