-- The core goes on from a moment to that at which a pipe, which has left its place, is down.
use Rattle.std.proofs.Common.{◌≡◌, ◌≢◌, sym, subst, List, [], ℕ, true}
use Rattle.sp_base.specs.declared.OpName.{OpName}
use Rattle.sp_msg.specs.Views.{WireView}
use Rattle.sp_history.specs.declared.entry.Entry.TheVariants.{Down}
use Rattle.sp_history.specs.declared.entry.Why.{Why}
use Rattle.sp_history.specs.declared.entry.Why.TheVariants as whys
use Rattle.sp_history.specs.declared.parts.Begun.{Begun}
use Rattle.sp_history.specs.Lists.{has}
use Rattle.sp_history.specs.Past.{up}
use Rattle.sp_history.specs.Moments.{Moment, past, also}
use Rattle.sp_core.specs.declared.owner.Core.{Core}
use Rattle.core_state.specs.declared.pipes.Pipes.{Pipes}
use Rattle.core_state.specs.Pipes.{PipesStand}
use Rattle.sp_core.specs.Owning.{Owns}
use Rattle.sp_core.specs.Closing.{ClosesAt}
use Rattle.sp_core.specs.FloodedPipes.{Spreads}
use Rattle.sp_core.specs.NoteSteps.{NotesDown}
use Rattle.sp_core.proofs.Closings.{go_down_lawful, goes_down_one}
use Rattle.sp_core.proofs.Flooded as flooded
use Rattle.sp_core.proofs.MomentSteps.{down_lawful, went_down}

module _ {P W : Type 0} (ties : P → Moment → Type 0) (room left : P → ℕ) (copies : P → OpName → ℕ) (shown : W → WireView) (c d : Core P W) (l : Pipes W) (t : Moment) (p : ℕ) (why : Why) where
  -- at a calm moment
  pub owns_down : Owns ties room shown [] c t → has (up (past t)) p ≡ true → why ≢ whys.Closed → PipesStand shown l (also t (Down p why)) → NotesDown ties room left copies p (record c { pipes = l }) d → Owns ties room shown [] d (also t (Down p why))
  owns_down g u n li k =
      went_down ties room shown c d t p why g u n (k.proto t why (down_lawful t p why g.lawful g.calm u) g.proto) k.has_room (subst (λ (x : Pipes W). PipesStand shown x (also t (Down p why))) (sym k.pipes) li) (k.tally t why g.tally) k.op_words k.operations k.closed

  -- while a send goes out on many pipes
  pub spreads_down : (op : OpName) (s : Begun) (b : List ℕ) → Spreads ties room shown c t op s b → has (up (past t)) p ≡ true → why ≢ whys.Closed → PipesStand shown l (also t (Down p why)) → NotesDown ties room left copies p (record c { pipes = l }) d → Spreads ties room shown d (also t (Down p why)) op s b
  spreads_down op s b g u n li k =
      flooded.went_down ties room shown c t op s b d p why g u n (k.proto t why (flooded.down_lawful ties room shown c t op s b p why g u) g.proto) k.has_room (subst (λ (x : Pipes W). PipesStand shown x (also t (Down p why))) (sym k.pipes) li) (k.tally t why g.tally) k.op_words k.operations k.closed

  -- within a close
  pub closes_down : ClosesAt ties room shown c t → has (up (past t)) p ≡ true → PipesStand shown l (also t (Down p why)) → NotesDown ties room left copies p (record c { pipes = l }) d → ClosesAt ties room shown d (also t (Down p why))
  closes_down g u li k =
      goes_down_one ties room shown c d t p why g u (k.proto t why (go_down_lawful ties room shown c t p why g u) g.proto) k.has_room (subst (λ (x : Pipes W). PipesStand shown x (also t (Down p why))) (sym k.pipes) li) (k.tally t why g.tally) k.op_words k.operations
