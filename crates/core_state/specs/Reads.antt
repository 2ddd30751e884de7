-- What seats have read of the words.
use Rattle.std.specs.Prelude.{◌≡◌, ◌⊎◌, ℕ, Bool, true, false, List, [], ◌∷◌, ◌++◌, Option, Some, None, ◌≢◌}
use Rattle.sp_base.specs.declared.OpName.{OpName}
use Rattle.aio_word.specs.declared.phase.Phase.TheVariants as phase
use Rattle.aio_word.specs.declared.rule.ShownOperation as word
use Rattle.aio_word.specs.Results.{of_op}
use Rattle.aio_word.specs.declared.phase.Phase.{Phase}
use Rattle.aio_word.specs.declared.rule.WordsView.{WordsView}
use Rattle.aio_word.specs.Word.{is_decided}
use Rattle.aio_word.specs.Views.{Each}
use Rattle.core_state.specs.declared.op_words.Decision.{Decision}

-- these reads, and perhaps more
pub record Grows (old new : List word.ShownOperation) : Type 0 where
  pub more : List word.ShownOperation
  pub is : new ≡ old ++ more

-- what looking at one word showed
abbrev pub LookReads : Option Decision → OpName → List word.ShownOperation → List word.ShownOperation → Type 0
LookReads None op old new = new ≡ old ++ of_op op phase.Pending 0 ∷ []
LookReads (Some decision) op old new = Grows old new

-- ---- A caller's seat

-- a read of the slot that shows no end of the operation
abbrev pub IsEarlier : OpName → word.ShownOperation → Type 0
IsEarlier op e = (e.slot ≡ op.slot) × ((e.generation ≢ op.generation) ⊎ (is_decided e.phase ≡ false))

-- a read of the slot that shows another operation
abbrev pub IsStale : OpName → word.ShownOperation → Type 0
IsStale op e = (e.slot ≡ op.slot) × (e.generation ≢ op.generation)

-- the seat has read the word once, after reads of its slot that show other operations, and has learned nothing else: it
-- hasn't waited for the operation's word to change
pub record ReadOnce (op : OpName) (v w : WordsView) : Type 0 where
  pub others : List word.ShownOperation
  pub are_others : Each (IsStale op) others
  pub last : word.ShownOperation
  pub read : w ≡ record v { reads = v.reads ++ others ++ last ∷ [] }

-- the seat has read this of the operation last, after reads of its slot that show no end of it, and has learned nothing
-- else
pub record ReadAs (op : OpName) (p : Phase) (by : ℕ) (v w : WordsView) : Type 0 where
  pub others : List word.ShownOperation
  pub are_others : Each (IsEarlier op) others
  pub read : w ≡ record v { reads = v.reads ++ others ++ of_op op p by ∷ [] }

-- it has read an end
abbrev pub ReadEnd : OpName → WordsView → WordsView → Type 0
ReadEnd op v w = (p : Phase) × (by : ℕ) × (is_decided p ≡ true) × ReadAs op p by v w

-- it has read an end, or that there is none
abbrev pub ReadSo : Bool → OpName → WordsView → WordsView → Type 0
ReadSo true op v w = ReadEnd op v w
ReadSo false op v w = ReadAs op phase.Pending 0 v w

-- the last read of the seat is an end of the operation
abbrev pub HasReadEnd : OpName → WordsView → Type 0
HasReadEnd op v = (reads : List word.ShownOperation) × (p : Phase) × (by : ℕ) × (is_decided p ≡ true) × (v.reads ≡ reads ++ of_op op p by ∷ [])
