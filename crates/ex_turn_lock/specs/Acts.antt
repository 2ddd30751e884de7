-- What a caller that acts did.
use Rattle.std.specs.Prelude.{◌≡◌, ℕ, List, ◌∷◌, ◌++◌, length, Option, Some}
use Rattle.atomic_table.specs.Seated.{TableId}
use Rattle.turn_lock.specs.declared.turn.Turn.{Turn}
use Rattle.turn_lock.specs.History.{turns_of}
use Rattle.turn_lock.specs.Passes.{TurnPassView, IsReady, IsSameCaller}
use Rattle.ex_turn_lock.specs.declared.setting.MachineLabel.{MachineLabel}

module _ {E : Type 0} where
  -- the turn is what a machine with the label's room returns
  abbrev pub RepliesTo : (ℕ → ℕ → Option ℕ → List (Turn E) → Turn E → Type 0) → Option MachineLabel → ℕ → List (Turn E) → Turn E → Type 0
  RepliesTo replies label value past t = (z : MachineLabel) × (label ≡ Some z) × (reply : Option ℕ) × replies z.room value reply past t

  -- each turn of this number in the part of the history after `before` returns what follows from the history before it,
  -- the first for the value 0, the next for 1, and so on
  abbrev pub ReturnsInOrder : (ℕ → List (Turn E) → Turn E → Type 0) → ℕ → List (Turn E) → List (Turn E) → Type 0
  ReturnsInOrder says n before past = (prefix : List (Turn E)) (t : Turn E) (rest : List (Turn E)) → past ≡ prefix ++ t ∷ rest → t.number ≡ n → says (length (turns_of n prefix)) (before ++ prefix) t

  module _ {L : Type 0} where
    -- the caller has taken `count` turns, one for each value from 0 on, and is ready again
    pub record Acted (says : ℕ → List (Turn E) → Turn E → Type 0) (lock : TableId) (before : TurnPassView E L) (count : ℕ) (after : TurnPassView E L) : Type 0 where
      pub ready : IsReady lock after
      pub same : IsSameCaller before after
      -- what was seen since
      pub past : List (Turn E)
      pub seen : after.seen ≡ before.seen ++ past
      pub mine : after.mine ≡ before.mine ++ turns_of before.number past
      pub turns : length (turns_of before.number past) ≡ count
      pub returned : ReturnsInOrder says before.number before.seen past
