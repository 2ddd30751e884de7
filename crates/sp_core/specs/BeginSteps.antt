-- What the steps of a begin lead to, within a turn.
use Rattle.sp_base.specs.declared.OpName.{OpName}
use Rattle.sp_core.specs.KeptWords.{KeepsReads, KeepsWords}
use Rattle.core_state.specs.OpWordsStand.{IsNext, OpWordsStand}
use Rattle.sp_core.specs.Looking.{HasLooked, reads_of}
use Rattle.sp_core.specs.Moving.{AreSettling}
use Rattle.sp_core.specs.Owning.{CanBegin, Owns}
use Rattle.core_state.specs.OperationsStand.{AllTaken, OperationsStand}
use Rattle.sp_core.specs.Standing.{IsSettled, RefusedFor, StandsFor, Turns, core_setting}
use Rattle.core_state.specs.declared.causes.BeginError.{BeginError}
use Rattle.sp_core.specs.declared.owner.Core.{Core}
use Rattle.sp_history.specs.Moments.{Moment, also, next, past}
use Rattle.sp_history.specs.Past.{past_of}
use Rattle.sp_history.specs.declared.entry.RecordedAct.{RecordedAct as RecordedActType}
use Rattle.sp_history.specs.declared.entry.Entry.{Entry}
use Rattle.sp_history.specs.declared.entry.Entry.TheVariants.{Begin}
use Rattle.sp_msg.specs.Views.{MessageView, WireView}
use Rattle.sp_proto.specs.Kinds.{Kind, verb_of}
use Rattle.sp_proto.specs.Machines.{NoFlood}
use Rattle.sp_proto.specs.declared.Verb.{Verb}
use Rattle.std.specs.Prelude.{List, MatchOption, MatchResult, Option, Result, [], ℕ, ◌∷◌, ◌≡◌, ◌≢◌}
use Rattle.turn_lock.specs.declared.turn.Turn.{Turn}
use Rattle.core_state.specs.declared.causes.BeginError.TheVariants as begin_error

-- the turn begins: callers' ends on the context are recorded, and all is done that can be
abbrev pub OpensTurn : {P W : Type 0} → (P → Moment → Type 0) → (P → ℕ) → (W → WireView) → ℕ → ℕ → (P → Kind) → Core P W → Core P W → Type 0
OpensTurn ties room shown k c kind old new =
    KeepsWords old new ((h : List (Turn Entry)) → StandsFor ties room shown old h → (t : Moment) × AreSettling t.turn × IsSettled t × (t.z ≡ core_setting kind old) × Turns ties room shown [] new h k t × HasLooked c (past_of h) t.turn (reads_of old) (reads_of new))

-- the operation may begin, or why not
abbrev pub TellsMayBegin : {P W : Type 0} → (P → Moment → Type 0) → (P → ℕ) → (W → WireView) → Result (Unit {0}) BeginError → ℕ → Verb → Core P W → Type 0
TellsMayBegin ties room shown r c verb x =
    (t : Moment) (act : RecordedActType) → Owns ties room shown [] x t → verb_of act ≡ verb → MatchResult r (λ _. CanBegin t c act) (λ e. RefusedFor e t.z (past t) c act × (e ≢ begin_error.NoMemory))

-- the words and the lists of operations stand for a moment
abbrev pub MayDraw : {P W : Type 0} → Core P W → Type 0
MayDraw old = (t : Moment) × OpWordsStand old.op_words t × OperationsStand [] old.operations t

-- a free slot is drawn for an operation that may begin, or the reason why not
abbrev pub DrawsFor : {P W : Type 0} → (P → Moment → Type 0) → (P → ℕ) → (W → WireView) → Result OpName BeginError → ℕ → Verb → Core P W → Core P W → Type 0
DrawsFor ties room shown r c verb old new =
    KeepsReads old new ((t : Moment) (act : RecordedActType) → Owns ties room shown [] old t → verb_of act ≡ verb → MatchResult r (λ op. Owns ties room shown (op.slot ∷ []) new t × IsNext t op × CanBegin t c act) (λ e. Owns ties room shown [] new t × RefusedFor e t.z (past t) c act × (e ≢ begin_error.NoMemory)))

-- the slot that was drawn can be put back
abbrev pub MayPutBack : {P W : Type 0} → Core P W → OpName → Type 0
MayPutBack new op = (t : Moment) × OperationsStand (op.slot ∷ []) new.operations t

-- a free slot is drawn, or all are taken
abbrev pub DrawsSlot : {P W : Type 0} → (P → Moment → Type 0) → (P → ℕ) → (W → WireView) → Option OpName → Core P W → Core P W → Type 0
DrawsSlot ties room shown r old new =
    KeepsReads old new ((t : Moment) → Owns ties room shown [] old t → MatchOption r (Owns ties room shown [] new t × AllTaken t.z (past t)) (λ op. Owns ties room shown (op.slot ∷ []) new t × IsNext t op))

-- the operation may begin in its slot, which is drawn
abbrev pub MayBegin : {P W : Type 0} → (P → Moment → Type 0) → (P → ℕ) → (W → WireView) → OpName → ℕ → RecordedActType → Core P W → Type 0
MayBegin ties room shown op c act old =
    (t : Moment) × Owns ties room shown (op.slot ∷ []) old t × IsNext t op × CanBegin t c act × NoFlood t

-- the operation has begun, or its slot is free again
abbrev pub BeginsDrawn : {P W : Type 0} → (P → Moment → Type 0) → (P → ℕ) → (W → WireView) → Result (Unit {0}) MessageView → OpName → ℕ → RecordedActType → Option ℕ → Core P W → Core P W → Type 0
BeginsDrawn ties room shown r op c act deadline old new =
    KeepsReads old new ((t : Moment) → Owns ties room shown (op.slot ∷ []) old t → IsNext t op → CanBegin t c act → NoFlood t → MatchResult r (λ _. Owns ties room shown [] new (also t (Begin op t.caller c act deadline))) (λ _. Owns ties room shown [] new t))

-- a turn of any caller begins
abbrev pub BeginsTurn : {P W : Type 0} → (P → Moment → Type 0) → (P → ℕ) → (W → WireView) → Core P W → Core P W → Type 0
BeginsTurn ties room shown old new =
    KeepsReads old new ((h : List (Turn Entry)) (k : ℕ) (s : StandsFor ties room shown old h) → Owns ties room shown [] new (next s.at k))
