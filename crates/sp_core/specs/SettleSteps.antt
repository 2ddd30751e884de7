-- What settling leads to, within a turn.
use Rattle.std.specs.Prelude.{ℕ, [], ◌≡◌, ◌<◌}
use Rattle.sp_msg.specs.Views.{WireView}
use Rattle.sp_history.specs.Moments.{Moment, past}
use Rattle.core_state.specs.declared.pending.PendingOperation.{PendingOperation}
use Rattle.sp_core.specs.declared.owner.Core.{Core}
use Rattle.sp_core.specs.Cores.{words_of}
use Rattle.sp_core.specs.Looking.{HasLooked, FoundOf, reads_of}
use Rattle.core_state.specs.Reads.{Grows}
use Rattle.sp_core.specs.Moving.{Later}
use Rattle.sp_core.specs.Owning.{Owns}
use Rattle.sp_core.specs.Standing.{IsSettled}

-- from each moment to a later one that satisfies this, with the same words
pub record SettlesTo {P W : Type 0} (ties : P → Moment → Type 0) (room : P → ℕ) (shown : W → WireView) (old new : Core P W) (fact : Moment → Moment → Type 0) : Type 0 where
  pub later : (t : Moment) → Owns ties room shown [] old t → (u : Moment) × Later t u × Owns ties room shown [] new u × fact t u
  pub words : words_of new ≡ words_of old

-- from each moment to a later one at which nothing is left to be done
pub record Settles {P W : Type 0} (ties : P → Moment → Type 0) (room : P → ℕ) (shown : W → WireView) (old new : Core P W) : Type 0 where
  pub later : (t : Moment) → Owns ties room shown [] old t → (u : Moment) × Later t u × Owns ties room shown [] new u × IsSettled u
  pub words : words_of new ≡ words_of old
  pub reads : Grows (reads_of old) (reads_of new)

-- from each moment at which this can be done to a later one at which less is left to be done
pub record SettlesBy {P W A : Type 0} (ties : P → Moment → Type 0) (room measure : P → ℕ) (shown : W → WireView) (old new : Core P W) (can : Moment → A → Type 0) : Type 0 where
  pub later : (t : Moment) (x : A) → Owns ties room shown [] old t → can t x → (u : Moment) × Later t u × Owns ties room shown [] new u
  pub left : measure new.proto < measure old.proto
  pub words : words_of new ≡ words_of old
  pub reads : Grows (reads_of old) (reads_of new)

-- the same, for an operation and what it gets or sends
pub record SettlesByBoth {P W A B : Type 0} (ties : P → Moment → Type 0) (room measure : P → ℕ) (shown : W → WireView) (old new : Core P W) (can : Moment → A → B → Type 0) : Type 0 where
  pub later : (t : Moment) (x : A) (y : B) → Owns ties room shown [] old t → can t x y → (u : Moment) × Later t u × Owns ties room shown [] new u
  pub left : measure new.proto < measure old.proto
  pub words : words_of new ≡ words_of old
  pub reads : Grows (reads_of old) (reads_of new)

-- what was pending on the context has ended, or was read as pending
abbrev pub LooksOn : {P W : Type 0} → ℕ → Core P W → Core P W → Moment → Moment → Type 0
LooksOn c old new t u = HasLooked c (past t) u.turn (reads_of old) (reads_of new)

-- the operation was found ended or pending, or is of another context
abbrev pub FindsOf : {P W : Type 0} → PendingOperation → ℕ → Core P W → Core P W → Moment → Moment → Type 0
FindsOf x c old new t u = FoundOf x c t u old.operations new.operations (reads_of old) (reads_of new)
