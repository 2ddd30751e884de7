-- How the words and the core's seat match a history.
use Rattle.std.specs.Prelude.{◌≡◌, ◌⊎◌, ℕ, ◌<◌, ◌≤◌, List, map, length, slice_index, Option, Some, None, ◌+◌, ◌^◌, true}
use Rattle.sp_base.specs.declared.OpName.{OpName}
use Rattle.sp_history.specs.declared.entry.Ending.{Ending}
use Rattle.sp_history.specs.declared.entry.Ending.TheVariants.{Won, Gone}
use Rattle.sp_history.specs.declared.entry.Completion as ending
use Rattle.sp_history.specs.declared.entry.Entry.TheVariants.{End}
use Rattle.sp_history.specs.Past.{ends, begins}
use Rattle.sp_history.specs.Moments.{Moment, past, also}
use Rattle.aio_word.specs.declared.phase.Phase.{Phase}
use Rattle.aio_word.specs.declared.phase.Phase.TheVariants as phase
use Rattle.sp_history.specs.declared.entry.Cause.{Cause}
use Rattle.sp_history.specs.declared.entry.Cause.TheVariants as causes
use Rattle.core_state.specs.declared.op_words.OpWords.{OpWords}
use Rattle.core_state.specs.declared.op_words.Decision.{Decision}
use Rattle.core_state.specs.declared.op_words.Decision.TheVariants as decision
use Rattle.core_state.specs.Ends.{decided, IsCallers, IsCloseEnd}
use Rattle.sp_history.specs.Legal.{is_free}

-- the seat has the ends and the generations of the history
pub record Sees (d : OpWords) (slots callers : ℕ) (es : List (OpName × Ending)) (gens : ℕ → ℕ) : Type 0 where
  pub own : d.seat.words ≡ d.words.id
  pub slots_are : d.words.slots ≡ slots
  pub callers_are : d.words.callers ≡ callers
  pub made_are : d.seat.view.made ≡ callers
  pub ends_are : d.seat.view.ends ≡ map decided es
  pub wide : length d.seat.view.generations ≡ slots
  pub gens_are : (i : ℕ) → i < slots → slice_index d.seat.view.generations i ≡ gens i

abbrev pub OpWordsStand : OpWords → Moment → Type 0
OpWordsStand d t = Sees d t.z.slots t.z.callers (ends (past t)) (begins (past t))

-- the operation ended, as its word says: the core has won it, for any cause, or a caller has ended it
abbrev pub DecidedAs : Decision → OpName → Moment → OpWords → Type 0
DecidedAs decision.Won op t d = (r : ending.Completion) → OpWordsStand d (also t (End op (Won r)))
DecidedAs (decision.Gone cause by) op t d = IsCallers cause × (1 ≤ by) × (by ≤ t.z.callers) × OpWordsStand d (also t (End op (Gone cause by)))

-- the operation ended, as its word says: the core has ended it for this cause, or a caller has ended it
abbrev pub FinishedAs : Cause → Decision → OpName → Moment → OpWords → Type 0
FinishedAs why decision.Won op t d = ⊥
FinishedAs why (decision.Gone cause by) op t d =
    (((cause ≡ why) × (by ≡ 0)) ⊎ (IsCallers cause × (1 ≤ by) × (by ≤ t.z.callers))) × OpWordsStand d (also t (End op (Gone cause by)))

-- the phases that are a caller's
abbrev pub GoneAs : Option Decision → Phase → ℕ → Type 0
GoneAs result phase.Cancelled by = result ≡ Some (decision.Gone causes.Cancelled by)
GoneAs result phase.Expired by = result ≡ Some (decision.Gone causes.TimedOut by)
GoneAs result _ by = result ≡ None

-- the name is the next one of a free slot
pub record IsNext (t : Moment) (op : OpName) : Type 0 where
  pub inside : op.slot < t.z.slots
  pub free : is_free (past t) op.slot ≡ true
  pub generation : op.generation ≡ begins (past t) op.slot + 1
  pub not_worn : op.generation < 2 ^ 40

-- the operation ended, as its word says
abbrev pub ShutAs : Decision → OpName → Moment → OpWords → Type 0
ShutAs decision.Won op t d = ⊥
ShutAs (decision.Gone cause by) op t d = IsCloseEnd t.z.callers cause by × OpWordsStand d (also t (End op (Gone cause by)))
