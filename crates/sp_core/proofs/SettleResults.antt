-- The result of one step of settling.
use Rattle.std.proofs.Common.{◌≡◌, ℕ, Bool, true, false, []}
use Rattle.sp_msg.specs.Views.{WireView}
use Rattle.sp_history.specs.Moments.{Moment}
use Rattle.sp_core.specs.declared.owner.Core.{Core}
use Rattle.sp_core.specs.KeptWords.{KeepsReads}
use Rattle.sp_core.specs.Owning.{Owns}
use Rattle.sp_core.specs.Standing.{IsSettled}
use Rattle.sp_core.specs.OneStep.{GoesOn, SettlesOnce}

module _ {P W : Type 0} (ties : P → Moment → Type 0) (room measure : P → ℕ) (shown : W → WireView) (c d : Core P W) where
  pub goes : (r : Bool) → r ≡ true → SettlesOnce ties room measure shown r c d → GoesOn ties room measure shown c d
  goes true e h = h
  goes false e h = absurd cc

  pub rests : (r : Bool) → r ≡ false → SettlesOnce ties room measure shown r c d → KeepsReads c d ((t : Moment) → Owns ties room shown [] c t → Owns ties room shown [] d t × IsSettled t)
  rests true e h = absurd cc
  rests false e h = h
