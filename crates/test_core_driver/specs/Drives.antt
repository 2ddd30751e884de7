-- A core that one caller drives: it has a history in which the caller's operations are open.
use Rattle.std.specs.Prelude.{◌≡◌, ◌≤◌, ◌<◌, ◌+◌, ℕ, if◌then◌else◌, List, [], ◌∷◌, Some}
use Rattle.turn_lock.specs.declared.turn.Turn.{Turn}
use Rattle.sp_base.specs.declared.OpName.{OpName}
use Rattle.sp_msg.specs.Views.{WireView}
use Rattle.sp_history.specs.declared.entry.Entry.{Entry}
use Rattle.sp_history.specs.Lists.{same_op}
use Rattle.sp_history.specs.Moments.{Moment}
use Rattle.sp_history.specs.Once.{begin_count, took_count}
use Rattle.sp_history.specs.Past.{past_of, caller_of}
use Rattle.aio_word.specs.Sight.{Sight}
use Rattle.sp_core.specs.Cores.{callers_of, slots_of, words_of}
use Rattle.sp_core.specs.declared.owner.Core.{Core}
use Rattle.sp_core.specs.Standing.{StandsFor}

-- how often the operation is in the list
abbrev pub count_of : List OpName → OpName → ℕ
count_of [] op = 0
count_of (o ∷ ops) op = if same_op o op then count_of ops op + 1 else count_of ops op

-- caller 1 began each of these and collected none of them
abbrev pub AreHeld : List Entry → List OpName → Type 0
AreHeld past ops =
    (op : OpName) → (count_of ops op + took_count past op ≤ begin_count past op) × (0 < count_of ops op → caller_of past op ≡ Some 1)

-- a core, the seats of its two callers, the slots, and the open operations of caller 1
pub record Drives {P W : Type 0} (ties : P → Moment → Type 0) (room : P → ℕ) (shown : W → WireView) (core : Core P W) (seat other : Sight) (slots : ℕ) (ops : List OpName) : Type 0 where
  pub history : List (Turn Entry)
  pub stands : StandsFor ties room shown core history
  pub held : AreHeld (past_of history) ops
  pub has_caller : 1 ≤ callers_of core
  pub slots_are : slots_of core ≡ slots
  pub own_seat : seat.words ≡ (words_of core).id
  pub first_seat : seat.view.number ≡ 1
  pub other_seat : other.words ≡ (words_of core).id
