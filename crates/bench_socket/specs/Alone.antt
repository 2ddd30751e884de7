-- A core with a single caller.
use Rattle.std.specs.Prelude.{◌≤◌, ℕ, List}
use Rattle.turn_lock.specs.declared.turn.Turn.{Turn}
use Rattle.sp_msg.specs.Views.{WireView}
use Rattle.sp_history.specs.declared.entry.Entry.{Entry}
use Rattle.sp_history.specs.Moments.{Moment}
use Rattle.sp_core.specs.declared.owner.Core.{Core}
use Rattle.sp_core.specs.Cores.{callers_of}
use Rattle.sp_core.specs.Standing.{StandsFor}

-- it has some history, and a caller
pub record IsAlone {P W : Type 0} (ties : P → Moment → Type 0) (room : P → ℕ) (shown : W → WireView) (core : Core P W) : Type 0 where
  pub history : List (Turn Entry)
  pub stands : StandsFor ties room shown core history
  pub has_caller : 1 ≤ callers_of core
