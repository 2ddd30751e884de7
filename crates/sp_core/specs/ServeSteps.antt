-- What bringing a pipe up and serving the pipes lead to, within a turn.
use Rattle.sp_core.specs.KeptWords.{KeepsWords}
use Rattle.sp_core.specs.Attaching.{MayAttach, RefusedAttach}
use Rattle.core_state.specs.Pipes.{PipesStand, IsPipeAt, KeepsListed}
use Rattle.sp_core.specs.Owning.{Owns}
use Rattle.sp_core.specs.Serving.{FlushTold, GotTo, HasOnlyEnded, IsFresh, IsReady, IsUnpulled, PulledAll, SweptAll, BusySweptAll, VisitedTo}
use Rattle.core_state.specs.Wires.{numbers_of}
use Rattle.core_state.specs.declared.pipes.Flushed.{Flushed}
use Rattle.core_state.specs.declared.pipes.Flushed.TheVariants as flushed
use Rattle.core_state.specs.declared.pipes.Pipes.{Pipes as PipesType}
use Rattle.sp_core.specs.declared.owner.Core.{Core}
use Rattle.core_state.specs.declared.causes.AttachError.{AttachError}
use Rattle.sp_core.specs.declared.calls.serve.Got.{Got}
use Rattle.sp_core.specs.declared.calls.serve.Got.TheVariants as got
use Rattle.sp_core.specs.declared.calls.serve.Visit.{Visit}
use Rattle.sp_history.specs.Frames.{is_too_long}
use Rattle.sp_history.specs.Kept.{wanted}
use Rattle.sp_history.specs.Moments.{Moment, also, past}
use Rattle.sp_history.specs.Past.{ups}
use Rattle.sp_base.specs.declared.OpName.{OpName}
use Rattle.sp_core.specs.Cores.{words_of}
use Rattle.sp_history.specs.declared.entry.Ending.{Ending}
use Rattle.sp_history.specs.declared.entry.Entry.TheVariants.{End, Frame, Up}
use Rattle.sp_msg.specs.Views.{MessageView, WireView}
use Rattle.sp_proto.specs.Machines.{NoFlood}
use Rattle.sp_core.specs.Waiting.{GivesAll, HasNoneWaiting}
use Rattle.std.specs.Prelude.{⊤, Bool, MatchOption, MatchResult, None, Option, Result, [], length, true, false, ℕ, ◌+◌, ◌-◌, ◌<◌, ◌^◌, ◌≡◌}

-- the wire has become a pipe with this receive limit, or why not
abbrev pub BringsUp : {P W : Type 0} → (P → Moment → Type 0) → (P → ℕ) → (W → WireView) → Result ℕ (AttachError × W) → W → ℕ → Core P W → Core P W → Type 0
BringsUp ties room shown r w limit old new =
    KeepsWords old new ((t : Moment) (place : ℕ) → Owns ties room shown [] old t → NoFlood t → MatchResult r (λ p. (p ≡ ups (past t) + 1) × MayAttach t.z (past t) × Owns ties room shown [] new (also t (Up p place limit (record { numbers = numbers_of (shown w).name })))) (λ e. RefusedAttach e.0 t.z (past t) × Owns ties room shown [] new t))

-- a pipe may come up, or why not
abbrev pub TellsMayAttach : {P W : Type 0} → (P → Moment → Type 0) → (P → ℕ) → (W → WireView) → Option AttachError → Core P W → Type 0
TellsMayAttach ties room shown r x =
    (t : Moment) → Owns ties room shown [] x t → MatchOption r (MayAttach t.z (past t)) (λ e. RefusedAttach e t.z (past t))

-- there are numbers left for a pipe that may come up
abbrev pub LeavesNumbers : {P W : Type 0} → Option AttachError → Core P W → Type 0
LeavesNumbers r x =
    r ≡ None → (x.pipes.count + length x.pipes.down.items < 4096) × (x.tally.ups < 2 ^ 31 - 1)

-- the pipe still has its place, unless it went down
abbrev pub StaysFlushed : {W : Type 0} → Flushed → ℕ → ℕ → PipesType W → Type 0
StaysFlushed (flushed.Down why) i p l = ⊤
StaysFlushed _ i p l = IsPipeAt l i p

-- the same, where more may be pulled
abbrev pub StaysPulled : {W : Type 0} → Got → ℕ → ℕ → PipesType W → Type 0
StaysPulled got.More i p l = IsPipeAt l i p
StaysPulled _ i p l = ⊤

-- the pipe at this place was flushed
abbrev pub FlushesPipe : {P W : Type 0} → (P → Moment → Type 0) → (P → ℕ) → (W → WireView) → Flushed → ℕ → ℕ → Core P W → Core P W → Type 0
FlushesPipe ties room shown r i p old new =
    KeepsWords old new ((t : Moment) → Owns ties room shown [] old t → IsPipeAt old.pipes i p → (u : Moment) × FlushTold r p t u × Owns ties room shown [] new u × StaysFlushed r i p new.pipes × KeepsListed p old.pipes new.pipes)

-- this frame of the pipe at this place was pulled, and is not recorded
abbrev pub MayTakeFrame : {P W : Type 0} → (P → Moment → Type 0) → (P → ℕ) → (W → WireView) → ℕ → ℕ → MessageView → Core P W → Type 0
MayTakeFrame {W = W} ties room shown i p m old =
    (l : PipesType W) × (t : Moment) × Owns ties room shown [] (record old { pipes = l }) t × (m.header ≡ []) × PipesStand shown old.pipes (also t (Frame p m.body)) × IsPipeAt old.pipes i p × (wanted t.z (past t) p ≡ true)

-- the frame and its effects are recorded, where this holds of the moment before
abbrev pub TakesFrameWhere : {P W : Type 0} → (P → Moment → Type 0) → (P → ℕ) → (W → WireView) → (Moment → Type 0) → Got → ℕ → ℕ → MessageView → Core P W → Core P W → Type 0
TakesFrameWhere {W = W} ties room shown Where r i p m old new =
    KeepsWords old new ((l : PipesType W) (t : Moment) → Owns ties room shown [] (record old { pipes = l }) t → PipesStand shown old.pipes (also t (Frame p m.body)) → IsPipeAt old.pipes i p → wanted t.z (past t) p ≡ true → Where t → (u : Moment) × GotTo r p t u × Owns ties room shown [] new u × StaysPulled r i p new.pipes × (new.pipes.busy ≡ old.pipes.busy))

-- at each moment
abbrev pub TakesFrame : {P W : Type 0} → (P → Moment → Type 0) → (P → ℕ) → (W → WireView) → Got → ℕ → ℕ → MessageView → Core P W → Core P W → Type 0
TakesFrame {W = W} ties room shown r i p m old new =
    KeepsWords old new ((l : PipesType W) (t : Moment) → Owns ties room shown [] (record old { pipes = l }) t → PipesStand shown old.pipes (also t (Frame p m.body)) → IsPipeAt old.pipes i p → wanted t.z (past t) p ≡ true → (u : Moment) × GotTo r p t u × Owns ties room shown [] new u × StaysPulled r i p new.pipes × (new.pipes.busy ≡ old.pipes.busy))

-- the frame was pulled, and is within its pipe's receive limit
abbrev pub MayTellFrame : {P W : Type 0} → (P → Moment → Type 0) → (P → ℕ) → (W → WireView) → ℕ → ℕ → MessageView → Core P W → Type 0
MayTellFrame {W = W} ties room shown i p m old =
    (l : PipesType W) × (t : Moment) × Owns ties room shown [] (record old { pipes = l }) t × (m.header ≡ []) × PipesStand shown old.pipes (also t (Frame p m.body)) × IsPipeAt old.pipes i p

-- the frame and its effects are recorded, where it is within the limit
abbrev pub TellsFrame : {P W : Type 0} → (P → Moment → Type 0) → (P → ℕ) → (W → WireView) → Got → ℕ → ℕ → MessageView → Core P W → Core P W → Type 0
TellsFrame ties room shown r i p m old new =
    TakesFrameWhere ties room shown (λ t. is_too_long (past t) p m.body ≡ false) r i p m old new

-- the same, where it is above the limit
abbrev pub PassesOver : {P W : Type 0} → (P → Moment → Type 0) → (P → ℕ) → (W → WireView) → Got → ℕ → ℕ → MessageView → Core P W → Core P W → Type 0
PassesOver ties room shown r i p m old new =
    TakesFrameWhere ties room shown (λ t. is_too_long (past t) p m.body ≡ true) r i p m old new

-- frames of the pipe at this place are wanted
abbrev pub MayPull : {P W : Type 0} → (P → Moment → Type 0) → (P → ℕ) → (W → WireView) → ℕ → ℕ → Core P W → Type 0
MayPull ties room shown i p old =
    (t : Moment) × Owns ties room shown [] old t × IsPipeAt old.pipes i p × (wanted t.z (past t) p ≡ true)

-- the pipe at this place was pulled from once
abbrev pub PullsOnce : {P W : Type 0} → (P → Moment → Type 0) → (P → ℕ) → (W → WireView) → Got → ℕ → ℕ → Core P W → Core P W → Type 0
PullsOnce ties room shown r i p old new =
    KeepsWords old new ((t : Moment) → Owns ties room shown [] old t → IsPipeAt old.pipes i p → wanted t.z (past t) p ≡ true → (u : Moment) × GotTo r p t u × Owns ties room shown [] new u × StaysPulled r i p new.pipes × KeepsListed p old.pipes new.pipes)

-- one receive was given what is kept for it, unless a caller had ended it, and less is left to be done
pub record GivesOne {P W : Type 0} (ties : P → Moment → Type 0) (room measure : P → ℕ) (shown : W → WireView) (old new : Core P W) : Type 0 where
  pub does : (t : Moment) → Owns ties room shown [] old t → (op : OpName) × (e : Ending) × Owns ties room shown [] new (also t (End op e))
  pub words : words_of new ≡ words_of old
  pub left : measure new.proto < measure old.proto

-- the same, or none waits
abbrev pub GivesNext : {P W : Type 0} → (P → Moment → Type 0) → (P → ℕ) → (P → ℕ) → (W → WireView) → Bool → Core P W → Core P W → Type 0
GivesNext ties room measure shown true old new = GivesOne ties room measure shown old new
GivesNext ties room measure shown false old new = KeepsWords old new ((t : Moment) → Owns ties room shown [] old t → Owns ties room shown [] new t × HasNoneWaiting t)

-- receives were given what is kept for them, unless callers had ended them
abbrev pub GivesKept : {P W : Type 0} → (P → Moment → Type 0) → (P → ℕ) → (W → WireView) → Core P W → Core P W → Type 0
GivesKept ties room shown old new =
    KeepsWords old new ((t : Moment) → Owns ties room shown [] old t → (u : Moment) × HasOnlyEnded t u × Owns ties room shown [] new u × GivesAll t u)

-- the pipe at this place was not pulled from in this turn
abbrev pub MayPullAll : {P W : Type 0} → (P → Moment → Type 0) → (P → ℕ) → (W → WireView) → ℕ → ℕ → ℕ → Core P W → Type 0
MayPullAll ties room shown most i p old =
    (t : Moment) × Owns ties room shown [] old t × IsPipeAt old.pipes i p × IsUnpulled t p × IsReady most t p

-- the pipe at this place was pulled from until it was served
abbrev pub PullsPipe : {P W : Type 0} → (P → Moment → Type 0) → (P → ℕ) → (W → WireView) → Bool → ℕ → ℕ → ℕ → Core P W → Core P W → Type 0
PullsPipe ties room shown r most i p old new =
    KeepsWords old new ((t : Moment) → Owns ties room shown [] old t → IsPipeAt old.pipes i p → IsUnpulled t p → IsReady most t p → (u : Moment) × PulledAll most r p t u × Owns ties room shown [] new u × KeepsListed p old.pipes new.pipes)

-- no entry of this turn concerns the pipe at this place
abbrev pub MayServe : {P W : Type 0} → (P → Moment → Type 0) → (P → ℕ) → (W → WireView) → ℕ → ℕ → Core P W → Type 0
MayServe ties room shown i p old =
    (t : Moment) × Owns ties room shown [] old t × IsPipeAt old.pipes i p × IsFresh t p

-- the pipe at this place was flushed and served
abbrev pub ServesPipe : {P W : Type 0} → (P → Moment → Type 0) → (P → ℕ) → (W → WireView) → Visit → ℕ → ℕ → ℕ → Core P W → Core P W → Type 0
ServesPipe ties room shown r most i p old new =
    KeepsWords old new ((t : Moment) → Owns ties room shown [] old t → IsPipeAt old.pipes i p → IsFresh t p → (u : Moment) × VisitedTo most r p t u × Owns ties room shown [] new u × KeepsListed p old.pipes new.pipes)

-- every pipe was flushed and served
abbrev pub ServesAll : {P W : Type 0} → (P → Moment → Type 0) → (P → ℕ) → (W → WireView) → ℕ → Core P W → Core P W → Type 0
ServesAll ties room shown r old new =
    KeepsWords old new ((t : Moment) → Owns ties room shown [] old t → t.turn ≡ [] → (u : Moment) × SweptAll r t u × Owns ties room shown [] new u)

-- every pipe that was busy was flushed and served
abbrev pub ServesBusyAll : {P W : Type 0} → (P → Moment → Type 0) → (P → ℕ) → (W → WireView) → ℕ → ℕ → Core P W → Core P W → Type 0
ServesBusyAll ties room shown r most old new =
    KeepsWords old new ((t : Moment) → Owns ties room shown [] old t → t.turn ≡ [] → (u : Moment) × BusySweptAll most r t u × Owns ties room shown [] new u)

-- the list of busy pipes has less on it that isn't busy
abbrev pub Unlists : {P W : Type 0} → (P → Moment → Type 0) → (P → ℕ) → (W → WireView) → Core P W → Core P W → Type 0
Unlists ties room shown old new =
    KeepsWords old new ((t : Moment) → Owns ties room shown [] old t → Owns ties room shown [] new t)
