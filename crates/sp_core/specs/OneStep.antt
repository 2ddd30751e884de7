-- What one step of settling leads to, within a turn.
use Rattle.std.specs.Prelude.{◌≡◌, ◌<◌, ℕ, Bool, true, false, []}
use Rattle.sp_msg.specs.Views.{WireView}
use Rattle.sp_history.specs.Moments.{Moment}
use Rattle.sp_core.specs.declared.owner.Core.{Core}
use Rattle.sp_core.specs.Cores.{words_of}
use Rattle.sp_core.specs.KeptWords.{KeepsReads}
use Rattle.sp_core.specs.Looking.{reads_of}
use Rattle.core_state.specs.Reads.{Grows}
use Rattle.sp_core.specs.Moving.{Later}
use Rattle.sp_core.specs.Owning.{Owns}
use Rattle.sp_core.specs.Standing.{IsSettled}

-- from each moment to a later one at which less is left to be done
pub record GoesOn {P W : Type 0} (ties : P → Moment → Type 0) (room measure : P → ℕ) (shown : W → WireView) (old new : Core P W) : Type 0 where
  pub later : (t : Moment) → Owns ties room shown [] old t → (u : Moment) × Later t u × Owns ties room shown [] new u
  pub left : measure new.proto < measure old.proto
  pub words : words_of new ≡ words_of old
  pub reads : Grows (reads_of old) (reads_of new)

-- something was done, or nothing is left to be done
abbrev pub SettlesOnce : {P W : Type 0} → (P → Moment → Type 0) → (P → ℕ) → (P → ℕ) → (W → WireView) → Bool → Core P W → Core P W → Type 0
SettlesOnce ties room measure shown true old new = GoesOn ties room measure shown old new
SettlesOnce ties room measure shown false old new = KeepsReads old new ((t : Moment) → Owns ties room shown [] old t → Owns ties room shown [] new t × IsSettled t)
