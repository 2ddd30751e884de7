-- What a register has written, and what its history says about it.
use Rattle.std.specs.Prelude.{◌≡◌, ◌<◌, ◌++◌, ℕ, List, [], ◌∷◌, map, length, take, Option, MatchOption}
use Rattle.turn_lock.specs.declared.turn.Turn.{Turn}
use Rattle.turn_lock.specs.History.{turns_of, IsByCallers}
use Rattle.ex_turn_lock.specs.declared.writes.Write.{Write}
use Rattle.ex_turn_lock.specs.declared.writes.Written.{Written}

-- the writes of a history, in order
abbrev pub writes_of : List (Turn Written) → List Write
writes_of [] = []
writes_of (t ∷ ts) = map (λ (w : Written). record { by = t.number; value = w.0 }) t.entries ++ writes_of ts

-- the value that was written last, or the one before all
abbrev pub value_after : ℕ → List Write → ℕ
value_after value [] = value
value_after value (w ∷ ws) = value_after w.value ws

-- a register returns the value before where it has room for a write; else it writes nothing
abbrev pub Replies : ℕ → ℕ → Option ℕ → List (Turn Written) → Turn Written → Type 0
Replies room value reply past t = MatchOption reply
    ((length (writes_of past) ≡ room) × (t.entries ≡ []))
    (λ before. (length (writes_of past) < room) × (before ≡ value_after 0 (writes_of past)) × (t.entries ≡ record { 0 = value } ∷ []))

-- what the turns write where each caller writes 0, 1, 2 and so on: of the turns before, and the turns
abbrev pub counted : List (Turn Written) → List (Turn Written) → List Write
counted before [] = []
counted before (t ∷ ts) = record { by = t.number; value = length (turns_of t.number before) } ∷ counted (before ++ t ∷ []) ts

-- three callers have `times` turns each, in some order, and no other caller has any; the log is what they write in that
-- order, as far as the room goes
pub record IsLogOfThree (times room : ℕ) (log : List Write) : Type 0 where
  pub past : List (Turn Written)
  pub log_is : log ≡ take room (counted [] past)
  pub callers : IsByCallers 3 past
  pub first : length (turns_of 1 past) ≡ times
  pub second : length (turns_of 2 past) ≡ times
  pub third : length (turns_of 3 past) ≡ times
