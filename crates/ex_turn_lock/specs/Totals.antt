-- The sum of all that the turns of a history added.
use Rattle.std.specs.Prelude.{◌≡◌, ℕ, ◌+◌, ◌-◌, ◌^◌, min, List, [], ◌∷◌, ◌++◌, length, sum_by}
use Rattle.turn_lock.specs.declared.turn.Turn.{Turn}
use Rattle.turn_lock.specs.History.{turns_of, IsByCallers}
use Rattle.ex_turn_lock.specs.declared.counter.Added.{Added}

abbrev pub total : List (Turn Added) → ℕ
total [] = 0
total (t ∷ ts) = sum_by (λ (a : Added). a.0) t.entries + total ts

-- the turn adds `n`, up to the greatest count
abbrev pub Adds : ℕ → List (Turn Added) → Turn Added → Type 0
Adds n past t = total (past ++ t ∷ []) ≡ min (total past + n) (2 ^ 64 - 1)

-- two callers have `times` turns each, and no other caller has any
pub record IsByTwo (times : ℕ) (past : List (Turn Added)) : Type 0 where
  pub callers : IsByCallers 2 past
  pub first : length (turns_of 1 past) ≡ times
  pub second : length (turns_of 2 past) ≡ times
