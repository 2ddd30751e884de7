-- Words and seats, as contracts see them.
use Rattle.std.specs.Prelude.{◌≡◌, ℕ}
use Rattle.atomic_table.specs.Seated.{TableId}
use Rattle.aio_word.specs.declared.rule.WordsView.{WordsView}

-- the words, the number of their slots, and the number of callers
pub record Named : Type 0 where
  pub id : TableId
  pub slots : ℕ
  pub callers : ℕ

-- the words that a seat belongs to, and what it knows
pub record Sight : Type 0 where
  pub words : TableId
  pub view : WordsView

-- the seat of the same caller, for the same words
abbrev pub IsSameSeat : Sight → Sight → Type 0
IsSameSeat old new = (new.words ≡ old.words) × (new.view.number ≡ old.view.number)
