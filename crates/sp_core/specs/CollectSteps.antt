-- What ticking, collecting and the immediate receive lead to, within a turn.
use Rattle.sp_base.specs.declared.OpName.{OpName}
use Rattle.sp_core.specs.KeptWords.{AddsReads, KeepsReads, KeepsWords}
use Rattle.sp_core.specs.Collecting.{IsOpenBefore, TickedTo}
use Rattle.core_state.specs.OperationsStand.{IsOutcomeOf}
use Rattle.sp_core.specs.Immediate.{NowTo, RefusedNow, TriedTo}
use Rattle.sp_core.specs.Moving.{Later}
use Rattle.sp_core.specs.Owning.{CanBegin, Owns}
use Rattle.core_state.specs.OpWordsStand.{IsNext}
use Rattle.sp_core.specs.Standing.{IsSettled}
use Rattle.core_state.specs.declared.causes.NowError.{NowError}
use Rattle.core_state.specs.declared.outcome.Outcome.{Outcome}
use Rattle.sp_core.specs.declared.owner.Core.{Core}
use Rattle.sp_history.specs.Kept.{kept}
use Rattle.sp_history.specs.Legal.{is_uncollected}
use Rattle.sp_history.specs.Lists.{is_nil}
use Rattle.sp_history.specs.Moments.{Moment, also, past}
use Rattle.sp_history.specs.Past.{pending}
use Rattle.sp_history.specs.declared.entry.Ending.{Ending}
use Rattle.sp_history.specs.declared.entry.Entry.TheVariants.{End, Took}
use Rattle.sp_history.specs.declared.parts.Begun.{Begun}
use Rattle.sp_history.specs.declared.parts.OperationEnd.{OperationEnd}
use Rattle.sp_msg.specs.Views.{MessageView, WireView}
use Rattle.sp_proto.specs.Machines.{NoFlood}
use Rattle.std.specs.Prelude.{List, MatchResult, Option, Result, Some, [], false, true, ℕ, ◌∷◌, ◌≡◌}
use Rattle.sp_history.specs.declared.entry.RecordedAct.TheVariants as acts

-- a slot is drawn for a receive that can be given something, or why not
abbrev pub DrawsToReceive : {P W : Type 0} → (P → Moment → Type 0) → (P → ℕ) → (W → WireView) → Result OpName NowError → ℕ → Core P W → Core P W → Type 0
DrawsToReceive ties room shown r c old new =
    KeepsReads old new ((t : Moment) → Owns ties room shown [] old t → MatchResult r (λ op. Owns ties room shown (op.slot ∷ []) new t × IsNext t op × CanBegin t c acts.Recv × (is_nil (kept t.z (past t) c) ≡ false)) (λ e. Owns ties room shown [] new t × RefusedNow e t.z (past t) c))

-- a message was received at once, or none can be
abbrev pub ReceivesAtOnce : {P W : Type 0} → (P → Moment → Type 0) → (P → ℕ) → (W → WireView) → Result MessageView NowError → ℕ → Core P W → Core P W → Type 0
ReceivesAtOnce ties room shown r c old new =
    AddsReads old new ((t : Moment) → Owns ties room shown [] old t → IsSettled t → (u : Moment) × Owns ties room shown [] new u × IsSettled u × NowTo r c t u)

-- one try to receive at once
abbrev pub TriesOnce : {P W : Type 0} → (P → Moment → Type 0) → (P → ℕ) → (W → WireView) → Result (Option MessageView) NowError → ℕ → Core P W → Core P W → Type 0
TriesOnce ties room shown r c old new =
    AddsReads old new ((t : Moment) → Owns ties room shown [] old t → IsSettled t → (u : Moment) × Owns ties room shown [] new u × IsSettled u × TriedTo r c t u)

-- the moment comes, unless the socket is closed
abbrev pub TicksOnce : {P W : Type 0} → (P → Moment → Type 0) → (P → ℕ) → (W → WireView) → ℕ → List OpName → List OpName → Core P W → Core P W → Type 0
TicksOnce ties room shown now names more old new =
    KeepsWords old new ((t : Moment) → Owns ties room shown [] old t → NoFlood t → TickedTo (Owns ties room shown [] new) t now names more)

-- the operation has ended and was not collected
abbrev pub FindsEnd : {P W : Type 0} → (P → Moment → Type 0) → (P → ℕ) → (W → WireView) → OpName → Core P W → Core P W → Type 0
FindsEnd ties room shown op old new =
    KeepsWords old new ((t : Moment) (k : ℕ) → Owns ties room shown [] old t → IsOpenBefore k op (past t) → (u : Moment) × Later t u × Owns ties room shown [] new u × (is_uncollected (past u) op ≡ true))

-- the operation is pending
abbrev pub IsPendingIn : {P W : Type 0} → (P → Moment → Type 0) → (P → ℕ) → (W → WireView) → OpName → Core P W → Type 0
IsPendingIn ties room shown op old =
    (t : Moment) × (s : Begun) × Owns ties room shown [] old t × (pending (past t) op ≡ Some s)

-- an end of the operation is recorded
abbrev pub NotesFound : {P W : Type 0} → (P → Moment → Type 0) → (P → ℕ) → (W → WireView) → OpName → Core P W → Core P W → Type 0
NotesFound ties room shown op old new =
    KeepsWords old new ((t : Moment) (s : Begun) → Owns ties room shown [] old t → pending (past t) op ≡ Some s → (ending : Ending) × Owns ties room shown [] new (also t (End op ending)))

-- the outcome of the operation is taken
abbrev pub TakesEnded : {P W : Type 0} → (P → Moment → Type 0) → (P → ℕ) → (W → WireView) → Outcome → OpName → Core P W → Core P W → Type 0
TakesEnded ties room shown r op old new =
    KeepsReads old new ((t : Moment) → Owns ties room shown [] old t → IsOpenBefore t.caller op (past t) → is_uncollected (past t) op ≡ true → Owns ties room shown [] new (also t (Took op t.caller)) × ((e : OperationEnd) × IsOutcomeOf e op (past t) r))
