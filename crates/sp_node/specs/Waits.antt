-- What calls that wait do.
use Rattle.std.specs.Prelude.{◌≡◌, ◌⊎◌, ◌==◌, true, ℕ, ◌+◌, ◌-◌, ◌^◌, Bool, List, min, Option, Some, None, Result, Ok, Err}
use Rattle.turn_lock.specs.declared.turn.Turn.{Turn}
use Rattle.sp_base.specs.declared.OpName.{OpName}
use Rattle.sp_msg.specs.Views.{MessageView}
use Rattle.sp_proto.specs.Kinds.{text_of}
use Rattle.sp_history.specs.declared.entry.RecordedAct.{RecordedAct}
use Rattle.sp_history.specs.declared.entry.RecordedAct.TheVariants as acts
use Rattle.sp_history.specs.declared.entry.Cause.{Cause}
use Rattle.sp_history.specs.declared.entry.Entry.{Entry}
use Rattle.sp_history.specs.declared.entry.Totals.{Totals}
use Rattle.sp_history.specs.Past.{past_of, now}
use Rattle.core_state.specs.declared.outcome.Outcome.{Outcome}
use Rattle.core_state.specs.declared.outcome.Outcome.TheVariants as outcomes
use Rattle.core_state.specs.declared.causes.BeginError.{BeginError}
use Rattle.core_state.specs.declared.served.Served.{Served}
use Rattle.sp_core.specs.declared.calls.collect.Collected.TheVariants as collected
use Rattle.sp_core.specs.CallSays.{ServesPipes}
use Rattle.sp_core.specs.Closing.{ClosedBy}
use Rattle.sp_core.specs.Standing.{BeganBy}
use Rattle.sp_core.specs.Collecting.{CollectedBy}
use Rattle.sp_socket.specs.Singles.{SingleView, TookOne}
use Rattle.sp_node.specs.declared.error.WaitError.{WaitError}
use Rattle.sp_node.specs.declared.error.WaitError.TheVariants as errors
use Rattle.sp_node.specs.Nodes.{NodeView, IsLater, KeepsOthers}

-- so many milliseconds after the last tick, or never
abbrev pub deadline_of : Option ℕ → SingleView → Option ℕ
deadline_of None s = None
deadline_of (Some time) s = Some (min (now (past_of s.seen) + time) (2 ^ 64 - 1))

-- the operation was collected in the last turn, and came to this; every other that was open is so still
pub record WaitsFor (outcome : Outcome) (op : OpName) (old new : SingleView) : Type 0 where
  pub last : SingleView
  pub later : IsLater old last
  pub collects : TookOne (λ z h t. CollectedBy (collected.Ended outcome) op 1 h t) last new
  pub others : KeepsOthers op old new

-- an operation was begun on context 0 in a turn of this call, for so many milliseconds from then on, and came to this
pub record Performs (act : RecordedAct) (time : Option ℕ) (outcome : Outcome) (old new : SingleView) : Type 0 where
  pub op : OpName
  pub before : SingleView
  pub begun : SingleView
  pub later : IsLater old before
  pub begins : TookOne (λ z h t. BeganBy (Ok op) z h t 1 0 act (deadline_of time before)) before begun
  pub waits : WaitsFor outcome op begun new

-- none could begin, for this cause
pub record Refuses (act : RecordedAct) (time : Option ℕ) (why : BeginError) (old new : SingleView) : Type 0 where
  pub before : SingleView
  pub later : IsLater old before
  pub refused : TookOne (λ z h t. BeganBy (Err why) z h t 1 0 act (deadline_of time before)) before new

-- it ended without success, for this cause
abbrev pub EndsFor : RecordedAct → Option ℕ → Cause → SingleView → SingleView → Type 0
EndsFor act time cause old new =
    (by : ℕ) × (back : Option MessageView) × Performs act time (outcomes.Gone cause by back) old new

-- why a call that waits came back without success
abbrev pub FailsFor : WaitError → RecordedAct → Option ℕ → SingleView → SingleView → Type 0
FailsFor (errors.Begin why) act time old new = Refuses act time why old new
FailsFor (errors.Gone cause) act time old new = EndsFor act time cause old new
FailsFor (errors.Other why) act time old new = ⊥

abbrev pub Receives : {L : Type 0} → Result MessageView WaitError → Option ℕ → NodeView L → NodeView L → Type 0
Receives (Ok m) time old new = Performs acts.Recv time (outcomes.Received m) old.single new.single
Receives (Err e) time old new = FailsFor e acts.Recv time old.single new.single

abbrev pub Sends : {L : Type 0} → Result (Unit {0}) WaitError → MessageView → Option ℕ → NodeView L → NodeView L → Type 0
Sends (Ok done) m time old new = Performs (acts.Send (text_of m)) time outcomes.Sent old.single new.single
Sends (Err e) m time old new = FailsFor e (acts.Send (text_of m)) time old.single new.single

-- ---- What waits to be written

-- the last turn serves the pipes, and this says whether none had something left to write
pub record Flushes (is_flushed : Bool) (old new : SingleView) : Type 0 where
  pub before : SingleView
  pub later : IsLater old before
  pub served : Served
  pub last : TookOne (λ z h t. ServesPipes served z h t) before new
  pub waits : is_flushed ≡ (served.waiting == 0)

-- the last turn served the pipes, or the node is closed
abbrev pub ServesOrCloses : {L : Type 0} → NodeView L → NodeView L → Type 0
ServesOrCloses old new =
    (new.closed ≡ true) ⊎ ((is_flushed : Bool) × Flushes is_flushed old.single new.single)

-- it was flushed, and closed with these totals in the turn after that, which is the last of the record
pub record EndsFlushed (totals : Totals) (old : SingleView) (record_ : List (Turn Entry)) : Type 0 where
  pub is_flushed : Bool
  pub flushed : SingleView
  pub flushes : Flushes is_flushed old flushed
  pub closed : SingleView
  pub closes : TookOne (λ z h t. ClosedBy totals z.callers h t) flushed closed
  pub whole : record_ ≡ closed.seen
