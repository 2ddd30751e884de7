-- The core goes on from a moment to that at which a pipe was found full.
use Rattle.std.proofs.Common.{◌≡◌, sym, subst, List, [], ℕ, true}
use Rattle.sp_base.specs.declared.OpName.{OpName}
use Rattle.sp_msg.specs.Views.{WireView}
use Rattle.sp_history.specs.declared.entry.Entry.TheVariants.{Full}
use Rattle.sp_history.specs.declared.parts.Begun.{Begun}
use Rattle.sp_history.specs.Lists.{has}
use Rattle.sp_history.specs.Past.{up}
use Rattle.sp_history.specs.Moments.{Moment, past, also}
use Rattle.sp_core.specs.declared.owner.Core.{Core}
use Rattle.core_state.specs.declared.pipes.Pipes.{Pipes}
use Rattle.core_state.specs.Pipes.{PipesStand}
use Rattle.sp_core.specs.Owning.{Owns}
use Rattle.sp_core.specs.FloodedPipes.{Spreads}
use Rattle.sp_core.specs.NoteSteps.{NotesFull}
use Rattle.sp_core.proofs.Flooded as flooded
use Rattle.sp_core.proofs.MomentSteps.{full_lawful, found_full}

module _ {P W : Type 0} (ties : P → Moment → Type 0) (room left : P → ℕ) (copies : P → OpName → ℕ) (shown : W → WireView) (c d : Core P W) (l : Pipes W) (t : Moment) (p : ℕ) where
  -- at a calm moment
  pub owns_full : Owns ties room shown [] c t → has (up (past t)) p ≡ true → PipesStand shown l (also t (Full p)) → NotesFull ties room left copies p (record c { pipes = l }) d → Owns ties room shown [] d (also t (Full p))
  owns_full g u li k =
      found_full ties room shown c d t p g u (k.proto t tt (full_lawful t p g.lawful g.calm u) g.proto) k.has_room (subst (λ (x : Pipes W). PipesStand shown x (also t (Full p))) (sym k.pipes) li) (k.tally t tt g.tally) k.op_words k.operations k.closed

  -- while a send goes out on many pipes
  pub spreads_full : (op : OpName) (s : Begun) (b : List ℕ) → Spreads ties room shown c t op s b → has (up (past t)) p ≡ true → PipesStand shown l (also t (Full p)) → NotesFull ties room left copies p (record c { pipes = l }) d → Spreads ties room shown d (also t (Full p)) op s b
  spreads_full op s b g u li k =
      flooded.found_full ties room shown c t op s b d p g u (k.proto t tt (flooded.full_lawful ties room shown c t op s b p g u) g.proto) k.has_room (subst (λ (x : Pipes W). PipesStand shown x (also t (Full p))) (sym k.pipes) li) (k.tally t tt g.tally) k.op_words k.operations k.closed
