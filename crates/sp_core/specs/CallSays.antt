-- What the public calls of a core say.
use Rattle.std.specs.Prelude.{◌≡◌, ℕ, ◌≤◌, true, List, [], ◌∷◌, ◌++◌, length, Option, Result}
use Rattle.turn_lock.specs.declared.turn.Turn.{Turn}
use Rattle.sp_base.specs.declared.OpName.{OpName}
use Rattle.sp_msg.specs.Views.{MessageView, WireView}
use Rattle.sp_history.specs.declared.entry.RecordedAct.TheVariants.{Recv, Send}
use Rattle.sp_history.specs.declared.entry.Entry.{Entry}
use Rattle.sp_history.specs.Moments.{Moment}
use Rattle.sp_history.specs.Past.{past_of, is_closed, up}
use Rattle.sp_history.specs.Swept.{IsSwept, AreFlushed}
use Rattle.sp_proto.specs.Kinds.{Kind, text_of}
use Rattle.core_state.specs.declared.causes.CtxError.{CtxError}
use Rattle.core_state.specs.declared.causes.TopicError.{TopicError}
use Rattle.core_state.specs.declared.causes.NowError.{NowError}
use Rattle.core_state.specs.declared.pipes.DownPipe.{DownPipe}
use Rattle.core_state.specs.declared.causes.BeginError.{BeginError}
use Rattle.sp_core.specs.declared.owner.Core.{Core}
use Rattle.core_state.specs.declared.causes.AttachError.{AttachError}
use Rattle.core_state.specs.declared.served.Served.{Served}
use Rattle.sp_core.specs.Attaching.{AttachedBy, attached}
use Rattle.sp_core.specs.Collecting.{IsOpen}
use Rattle.sp_core.specs.Contexts.{ShutBy, SubscribedBy, UnsubscribedBy}
use Rattle.sp_core.specs.Cores.{callers_of, words_of}
use Rattle.sp_core.specs.declared.label.CoreLabel.{CoreLabel}
use Rattle.sp_history.specs.declared.setting.Setting.{Setting}
use Rattle.turn_lock.specs.Turning.{TakesTurn, HasTurnMore}
use Rattle.sp_core.specs.Immediate.{ReceivedNow}
use Rattle.sp_core.specs.Looking.{HasLooked, reads_of}
use Rattle.sp_core.specs.Parts.{HasWires}
use Rattle.sp_core.specs.Serving.{AreBusyServed, AreOthersLeft, IsServeTurn, ServedBy}
use Rattle.sp_core.specs.Waiting.{GivesFirst}
use Rattle.sp_core.specs.Standing.{StandsFor, BeganBy, began, core_setting}
use Rattle.core_state.specs.Wires.{numbers_of}

-- ---- Turns

-- one of the core's callers, whose numbers start at 1
abbrev pub IsCallerOf : {P W : Type 0} → Core P W → ℕ → Type 0
IsCallerOf c k = (1 ≤ k) × (k ≤ callers_of c)

-- the core stands for some history, and this is one of its callers
abbrev pub MayTakeTurn : {P W : Type 0} → (Core P W → List (Turn Entry) → Type 0) → Core P W → ℕ → Type 0
MayTakeTurn stands c k = ((h : List (Turn Entry)) × stands c h) × IsCallerOf c k

-- the same, and the caller began the operation and has not collected it
abbrev pub MayCollect : {P W : Type 0} → (Core P W → List (Turn Entry) → Type 0) → Core P W → ℕ → OpName → Type 0
MayCollect stands c k op = ((h : List (Turn Entry)) × stands c h × IsOpen k op h) × IsCallerOf c k

-- what `TakesTurn` says, for the histories that satisfy this
abbrev pub TakesTurnWhere : {P W : Type 0} → (Core P W → List (Turn Entry) → Type 0) → Core P W → Core P W → ℕ → (List (Turn Entry) → Type 0) → (List (Turn Entry) → Turn Entry → Type 0) → Type 0
TakesTurnWhere stands old new k holds says =
    (h : List (Turn Entry)) → stands old h → holds h → HasTurnMore stands new k says h

-- what no turn changes: the setting, and the core's own words
abbrev pub core_label : {P W : Type 0} → (P → Kind) → Core P W → CoreLabel
core_label kind c = record { setting = core_setting kind c; words = (words_of c).id }

-- the call is one turn of this caller, of which `says` holds
pub record TakesOneTurn {P W : Type 0} (stands : Core P W → List (Turn Entry) → Type 0) (kind : P → Kind) (old new : Core P W) (k : ℕ) (says : Setting → List (Turn Entry) → Turn Entry → Type 0) : Type 0 where
  pub turn : TakesTurn stands old new k (says (core_setting kind old))
  pub label : core_label kind new ≡ core_label kind old

-- ---- What a call states of its turn, by the setting and the history before it

-- a receive began or was refused, and the core has looked at the context
abbrev pub BeginsRecv : {P W : Type 0} → Result OpName BeginError → ℕ → ℕ → Option ℕ → Core P W → Core P W → Setting → List (Turn Entry) → Turn Entry → Type 0
BeginsRecv r k c deadline old new z h t =
    BeganBy r z h t k c Recv deadline × HasLooked c (past_of h) t.entries (reads_of old) (reads_of new)

-- the same for a send
abbrev pub BeginsSend : {P W : Type 0} → Result OpName (BeginError × MessageView) → ℕ → ℕ → MessageView → Option ℕ → Core P W → Core P W → Setting → List (Turn Entry) → Turn Entry → Type 0
BeginsSend r k c m deadline old new z h t =
    BeganBy (began r) z h t k c (Send (text_of m)) deadline × HasLooked c (past_of h) t.entries (reads_of old) (reads_of new)

-- a message was received at once or none was, and the core has looked at the context
abbrev pub ReceivesNow : {P W : Type 0} → Result MessageView NowError → ℕ → ℕ → Core P W → Core P W → Setting → List (Turn Entry) → Turn Entry → Type 0
ReceivesNow r k c old new z h t =
    ReceivedNow r z h t k c × HasLooked c (past_of h) t.entries (reads_of old) (reads_of new)

-- the wire has become a pipe, or why not
abbrev pub AttachesWire : {W : Type 0} → (W → WireView) → Result ℕ (AttachError × W) → W → ℕ → ℕ → Setting → List (Turn Entry) → Turn Entry → Type 0
AttachesWire shown r w place limit z h t = AttachedBy (attached r) z h t place limit (numbers_of (shown w).name)

-- each pipe was flushed and swept, no frame came while a receive waited for what a queue kept, and the result has the
-- counts
abbrev pub ServesPipes : Served → Setting → List (Turn Entry) → Turn Entry → Type 0
ServesPipes r z h t =
    IsSwept z (past_of h) t × AreFlushed (past_of h) t × IsServeTurn 64 t × ServedBy r t × (r.up ≡ length (up (past_of (h ++ t ∷ [])))) × GivesFirst z (past_of h) t

-- each pipe that was busy was flushed and then pulled from, at most `most` times with a frame, and no other pipe was; no
-- frame came while a receive waited for what a queue kept, and the result has the counts
abbrev pub ServesBusy : ℕ → Served → Setting → List (Turn Entry) → Turn Entry → Type 0
ServesBusy most r z h t =
    AreBusyServed most z (past_of h) t × AreOthersLeft (past_of h) t × IsServeTurn most t × ServedBy r t × (r.up ≡ length (up (past_of (h ++ t ∷ [])))) × GivesFirst z (past_of h) t

-- the context was shut, or why not
abbrev pub ClosesCtx : Result (Unit {0}) CtxError → ℕ → Setting → List (Turn Entry) → Turn Entry → Type 0
ClosesCtx r c z h t = ShutBy r z h t c

-- the context was subscribed to the topic, or why not
abbrev pub Subscribes : Result (Unit {0}) TopicError → ℕ → List ℕ → Setting → List (Turn Entry) → Turn Entry → Type 0
Subscribes r c b z h t = SubscribedBy r z h t c b

-- the context was unsubscribed from the topic, or why not
abbrev pub Unsubscribes : Result (Unit {0}) TopicError → ℕ → List ℕ → Setting → List (Turn Entry) → Turn Entry → Type 0
Unsubscribes r c b z h t = UnsubscribedBy r z h t c b

-- ---- The end

-- the wires of a closed core that were not taken
abbrev pub HandsOutWires : {P W : Type 0} → (P → Moment → Type 0) → (P → ℕ) → (W → WireView) → List (DownPipe W) → (P → Kind) → Core P W → Type 0
HandsOutWires ties room shown r kind x =
    (h : List (Turn Entry)) → StandsFor ties room shown x h → is_closed (past_of h) ≡ true → HasWires shown r (core_setting kind x) (past_of h)
