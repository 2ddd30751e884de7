-- What the calls of contexts lead to, within a turn.
use Rattle.sp_core.specs.KeptWords.{KeepsWords}
use Rattle.sp_core.specs.Closing.{ClosesAt, after}
use Rattle.sp_core.specs.Contexts.{AreCtxEnds, IsShutting, MayOpen, MayShut, MaySwitch, RefusedOpen, RefusedShut, RefusedTopic, ShutOne, SwitchedTo}
use Rattle.sp_core.specs.Owning.{Owns}
use Rattle.core_state.specs.declared.causes.CtxError.{CtxError}
use Rattle.core_state.specs.declared.causes.TopicError.{TopicError}
use Rattle.sp_core.specs.declared.owner.Core.{Core}
use Rattle.sp_history.specs.Legal.{is_pending_on}
use Rattle.sp_history.specs.Moments.{Moment, also, past}
use Rattle.sp_history.specs.Past.{opened}
use Rattle.sp_history.specs.declared.entry.Entry.{Entry}
use Rattle.sp_msg.specs.Views.{WireView}
use Rattle.std.specs.Prelude.{Bool, List, MatchOption, MatchResult, Option, Result, [], false, ℕ, ◌+◌, ◌≡◌}
use Rattle.sp_history.specs.declared.entry.Entry.TheVariants as entries
use Rattle.sp_history.specs.declared.entry.ContextChange.TheVariants as gate

-- a context was opened, or why not
abbrev pub OpensOne : {P W : Type 0} → (P → Moment → Type 0) → (P → ℕ) → (W → WireView) → Result ℕ CtxError → Core P W → Core P W → Type 0
OpensOne ties room shown r old new =
    KeepsWords old new ((t : Moment) → Owns ties room shown [] old t → MatchResult r (λ c. (c ≡ opened (past t) + 1) × MayOpen t.z (past t) × Owns ties room shown [] new (also t (entries.Ctx c gate.Open))) (λ e. RefusedOpen e t.z (past t) × Owns ties room shown [] new t))

-- a context may be opened, or why not
abbrev pub TellsMayOpen : {P W : Type 0} → (P → Moment → Type 0) → (P → ℕ) → (W → WireView) → Option CtxError → Core P W → Type 0
TellsMayOpen ties room shown r x =
    (t : Moment) → Owns ties room shown [] x t → MatchOption r (MayOpen t.z (past t)) (λ e. RefusedOpen e t.z (past t))

-- the context may be shut
abbrev pub MayShutOne : {P W : Type 0} → (P → Moment → Type 0) → (P → ℕ) → (W → WireView) → ℕ → Core P W → Type 0
MayShutOne ties room shown c old =
    (t : Moment) × Owns ties room shown [] old t × MayShut t.z (past t) c

-- the context was shut
abbrev pub ShutsOne : {P W : Type 0} → (P → Moment → Type 0) → (P → ℕ) → (W → WireView) → ℕ → Core P W → Core P W → Type 0
ShutsOne ties room shown c old new =
    KeepsWords old new ((t : Moment) → Owns ties room shown [] old t → MayShut t.z (past t) c → ShutOne (Owns ties room shown [] new) t c)

-- the context may be shut, or why not
abbrev pub TellsMayShut : {P W : Type 0} → (P → Moment → Type 0) → (P → ℕ) → (W → WireView) → Option CtxError → ℕ → Core P W → Type 0
TellsMayShut ties room shown r c x =
    (t : Moment) → Owns ties room shown [] x t → MatchOption r (MayShut t.z (past t) c) (λ e. RefusedShut e t.z (past t) c)

-- what was pending on the context has ended
abbrev pub EndsOn : {P W : Type 0} → (P → Moment → Type 0) → (P → ℕ) → (W → WireView) → ℕ → Core P W → Core P W → Type 0
EndsOn ties room shown c old new =
    KeepsWords old new ((t : Moment) → ClosesAt ties room shown old t → IsShutting t t c → (es : List Entry) × AreCtxEnds t.z.callers c (past t) es × IsShutting t (after t es) c × (is_pending_on (past (after t es)) c ≡ false) × ClosesAt ties room shown new (after t es))

-- topics of the context may change, or why not
abbrev pub TellsMaySwitch : {P W : Type 0} → (P → Moment → Type 0) → (P → ℕ) → (W → WireView) → Option TopicError → ℕ → Core P W → Type 0
TellsMaySwitch ties room shown r c x =
    (t : Moment) (b : List ℕ) (on : Bool) → Owns ties room shown [] x t → MatchOption r (MaySwitch t.z (past t) c) (λ e. RefusedTopic on e t.z (past t) c b)

-- the topic is on or off, or why not
abbrev pub SwitchesTopic : {P W : Type 0} → (P → Moment → Type 0) → (P → ℕ) → (W → WireView) → Result Bool TopicError → ℕ → List ℕ → Bool → Core P W → Core P W → Type 0
SwitchesTopic ties room shown r c b on old new =
    KeepsWords old new ((t : Moment) → Owns ties room shown [] old t → SwitchedTo (Owns ties room shown [] new) r t c b on)
