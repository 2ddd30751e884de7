-- What the steps of a close lead to, within its turn.
use Rattle.sp_base.specs.declared.OpName.{OpName}
use Rattle.sp_core.specs.KeptWords.{KeepsWords}
use Rattle.sp_core.specs.Closing.{AreEndsOf, AreDownsOf, ClosesAt, GoesDownAs, after}
use Rattle.core_state.specs.Ends.{IsCloseEnd}
use Rattle.core_state.specs.Pipes.{IsPipeAt}
use Rattle.sp_core.specs.Owning.{Owns}
use Rattle.sp_core.specs.declared.owner.Core.{Core}
use Rattle.sp_history.specs.Lists.{without}
use Rattle.sp_history.specs.Moments.{Moment, also, past}
use Rattle.sp_history.specs.Past.{pend, pending, totals, up}
use Rattle.sp_history.specs.declared.entry.Cause.{Cause as CauseType}
use Rattle.sp_history.specs.declared.entry.Ending.TheVariants.{Gone}
use Rattle.sp_history.specs.declared.entry.Entry.{Entry}
use Rattle.sp_history.specs.declared.entry.Entry.TheVariants.{Close, Down, End}
use Rattle.sp_history.specs.declared.parts.Begun.{Begun}
use Rattle.sp_msg.specs.Views.{WireView}
use Rattle.std.specs.Prelude.{List, Some, [], ℕ, ◌≡◌}
use Rattle.sp_history.specs.declared.entry.Why.TheVariants as whys

-- every pending operation has ended, and the same pipes are up
abbrev pub EndsAll : {P W : Type 0} → (P → Moment → Type 0) → (P → ℕ) → (W → WireView) → Core P W → Core P W → Type 0
EndsAll ties room shown old new =
    KeepsWords old new ((t : Moment) → ClosesAt ties room shown old t → (es : List Entry) × AreEndsOf t.z.callers (pend (past t)) es × ClosesAt ties room shown new (after t es) × (pend (past (after t es)) ≡ []) × (up (past (after t es)) ≡ up (past t)))

-- the operation is pending within a turn of a close
abbrev pub IsPendingAtClose : {P W : Type 0} → (P → Moment → Type 0) → (P → ℕ) → (W → WireView) → OpName → Core P W → Type 0
IsPendingAtClose ties room shown op old =
    (t : Moment) × (s : Begun) × ClosesAt ties room shown old t × (pending (past t) op ≡ Some s)

-- the pending operation has ended
abbrev pub EndsOne : {P W : Type 0} → (P → Moment → Type 0) → (P → ℕ) → (W → WireView) → OpName → Core P W → Core P W → Type 0
EndsOne ties room shown op old new =
    KeepsWords old new ((t : Moment) (s : Begun) → ClosesAt ties room shown old t → pending (past t) op ≡ Some s → (cause : CauseType) × (by : ℕ) × IsCloseEnd t.z.callers cause by × ClosesAt ties room shown new (also t (End op (Gone cause by))))

-- every pipe has gone down, and the same operations are pending
abbrev pub TakesAllDown : {P W : Type 0} → (P → Moment → Type 0) → (P → ℕ) → (W → WireView) → Core P W → Core P W → Type 0
TakesAllDown ties room shown old new =
    KeepsWords old new ((t : Moment) → ClosesAt ties room shown old t → (es : List Entry) × AreDownsOf (up (past t)) es × ClosesAt ties room shown new (after t es) × (up (past (after t es)) ≡ []) × (pend (past (after t es)) ≡ pend (past t)))

-- the pipe at this place may go down for the close
abbrev pub MayTakeDown : {P W : Type 0} → (P → Moment → Type 0) → (P → ℕ) → (W → WireView) → ℕ → ℕ → Core P W → Type 0
MayTakeDown ties room shown i p old = (t : Moment) × ClosesAt ties room shown old t × IsPipeAt old.pipes i p

-- the pipe at this place was flushed and has gone down
abbrev pub TakesOneDown : {P W : Type 0} → (P → Moment → Type 0) → (P → ℕ) → (W → WireView) → ℕ → ℕ → Core P W → Core P W → Type 0
TakesOneDown ties room shown i p old new =
    KeepsWords old new ((t : Moment) → ClosesAt ties room shown old t → IsPipeAt old.pipes i p → (es : List Entry) × GoesDownAs p es × ClosesAt ties room shown new (after t es) × (up (past (after t es)) ≡ without (up (past t)) p) × (pend (past (after t es)) ≡ pend (past t)))

-- the pipe at this place has gone down for the close
abbrev pub TakesDown : {P W : Type 0} → (P → Moment → Type 0) → (P → ℕ) → (W → WireView) → ℕ → ℕ → Core P W → Core P W → Type 0
TakesDown ties room shown i p old new =
    KeepsWords old new ((t : Moment) → ClosesAt ties room shown old t → IsPipeAt old.pipes i p → ClosesAt ties room shown new (also t (Down p whys.Closed)))

-- nothing is pending and no pipe is up
abbrev pub MayShutSocket : {P W : Type 0} → (P → Moment → Type 0) → (P → ℕ) → (W → WireView) → Core P W → Type 0
MayShutSocket ties room shown old =
    (t : Moment) × ClosesAt ties room shown old t × (pend (past t) ≡ []) × (up (past t) ≡ [])

-- the socket is closed, where nothing is pending and no pipe is up
abbrev pub ShutsSocket : {P W : Type 0} → (P → Moment → Type 0) → (P → ℕ) → (W → WireView) → Core P W → Core P W → Type 0
ShutsSocket ties room shown old new =
    KeepsWords old new ((t : Moment) → ClosesAt ties room shown old t → pend (past t) ≡ [] → up (past t) ≡ [] → Owns ties room shown [] new (also t (Close (totals (past t)))))
