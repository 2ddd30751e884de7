-- The wins of the joined callers against the ends of the core.
use Rattle.std.specs.Prelude.{◌≡◌, ◌↔◌, ℕ, ◌<◌, true, List, length}
use Rattle.aio_word.specs.declared.rule.ShownOperation.{ShownOperation}
use Rattle.aio_word.specs.declared.rule.JoinedWins.{JoinedWins}
use Rattle.aio_word.specs.declared.rule.WordsView.{WordsView}
use Rattle.aio_word.specs.Word.{is_decided}
use Rattle.aio_word.specs.Views.{Stands}
use Rattle.aio_word.specs.Results.{HasSeen}
use Rattle.aio_word.specs.OneWinner.{IsSame}

-- the seat of the number k was joined, with these wins
abbrev pub IsJoined : WordsView → ℕ → List ShownOperation → Type 0
IsJoined v k wins = Stands (let x : JoinedWins = record { number = k; wins = wins } in x) v.kept

-- no slot's last operation is pending, as far as the core has seen
abbrev pub AllSeen : WordsView → Type 0
AllSeen v = (i : ℕ) → i < length v.generations → HasSeen v i

-- each operation that has ended was won once
pub record HasOneWinner (v : WordsView) : Type 0 where
  -- the ends that name a joined caller are those of its wins that have ended
  pub named : (k : ℕ) (wins : List ShownOperation) → IsJoined v k wins → (e : ShownOperation) → Stands e v.ends → (e.by ≡ k) ↔ Stands e wins
  -- a win whose operation has ended is in the ends unchanged
  pub ended : (k : ℕ) (wins : List ShownOperation) → IsJoined v k wins → (e d : ShownOperation) → Stands e v.ends → Stands d wins → IsSame e d → d ≡ e
  -- no operation is in the wins of two callers
  pub apart : (k l : ℕ) (wins others : List ShownOperation) → IsJoined v k wins → IsJoined v l others → (e d : ShownOperation) → Stands e wins → Stands d others → IsSame e d → k ≡ l
  -- no operation that the core ended is in any wins
  pub own : (k : ℕ) (wins : List ShownOperation) → IsJoined v k wins → (e d : ShownOperation) → Stands e v.ends → e.by ≡ 0 → Stands d wins → IsSame e d → ⊥
  -- once the core has seen each slot's end, each win is an end
  pub all : AllSeen v → (k : ℕ) (wins : List ShownOperation) → IsJoined v k wins → (e : ShownOperation) → Stands e wins → Stands e v.ends
  -- once the core has seen each slot's end, what a joined seat has read as decided is an end
  pub read : AllSeen v → (e : ShownOperation) → Stands e v.reads → is_decided e.phase ≡ true → Stands e v.ends
