use Rattle.std.proofs.Common.{◌≡◌, List, ℕ}
use Rattle.std.specs.Prelude.{◌-◌, ◌^◌}
use Rattle.sp_history.specs.declared.entry.Entry.{Entry}
use Rattle.sp_history.specs.Moments.{Moment}
use Rattle.sp_core.specs.Closing.{ClosesAt, after}
use Rattle.sp_core.proofs.Closings.{DownTo}
use Rattle.sp_core.proofs.owner.Core.take_all_down.Given as goal

-- the core stands for a moment, and the pipes up to the last number have gone down
abbrev pub invariant-loop-found : goal.invariant-loop-found
invariant-loop-found g l =
    record {
      standing : (t : Moment) × ClosesAt g.P.Proto.ties g.P.Proto.room g.W.Wire.shown l.self t;
      reached : (t : Moment) → ClosesAt g.P.Proto.ties g.P.Proto.room g.W.Wire.shown l.fn.self t → (gone : List ℕ) × (es : List Entry) × DownTo t gone es l.last × ClosesAt g.P.Proto.ties g.P.Proto.room g.W.Wire.shown l.self (after t es);
      words : l.self.op_words.words ≡ l.fn.self.op_words.words;
    }

abbrev pub decreases-loop-found : goal.decreases-loop-found
decreases-loop-found g l = 2 ^ 32 - l.last
