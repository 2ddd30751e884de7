-- The immediate receive.
use Rattle.std.specs.Prelude.{◌≡◌, ◌≢◌, ◌≤◌, ℕ, zero, suc, true, false, List, [], ◌∷◌, ◌++◌, Option, Some, None, Result, Ok, Err}
use Rattle.turn_lock.specs.declared.turn.Turn.{Turn}
use Rattle.sp_base.specs.declared.OpName.{OpName}
use Rattle.sp_msg.specs.Views.{MessageView}
use Rattle.sp_history.specs.declared.entry.RecordedAct.TheVariants.{Recv}
use Rattle.sp_history.specs.declared.entry.Cause.{Cause}
use Rattle.sp_history.specs.declared.entry.Ending.{Ending}
use Rattle.sp_history.specs.declared.entry.Ending.TheVariants.{Won, Gone}
use Rattle.sp_history.specs.declared.entry.Completion.TheVariants.{Received}
use Rattle.sp_history.specs.declared.entry.Entry.{Entry}
use Rattle.sp_history.specs.declared.entry.Entry.TheVariants.{Begin, End, Took}
use Rattle.sp_history.specs.declared.entry.RecordedMessage.{RecordedMessage}
use Rattle.sp_history.specs.declared.setting.Setting.{Setting}
use Rattle.sp_history.specs.Lists.{is_nil}
use Rattle.sp_history.specs.Past.{past_of, is_closed, onto}
use Rattle.sp_history.specs.Kept.{kept}
use Rattle.sp_history.specs.Moments.{Moment, past, also}
use Rattle.sp_proto.specs.Kinds.{text_of}
use Rattle.sp_proto.specs.Machines.{ChecksAct}
use Rattle.core_state.specs.declared.causes.NowError.{NowError}
use Rattle.core_state.specs.declared.causes.NowError.TheVariants as now_error
use Rattle.core_state.specs.declared.causes.BeginError.TheVariants as error
use Rattle.core_state.specs.Ends.{IsCallers}
use Rattle.sp_core.specs.Moving.{AreSettling, Later}
use Rattle.core_state.specs.OperationsStand.{AllTaken}
use Rattle.sp_core.specs.Standing.{RefusedFor}

-- a caller ends an operation with this cause
abbrev pub IsCallersEnd : ℕ → Cause → ℕ → Type 0
IsCallersEnd callers cause by = IsCallers cause × (1 ≤ by) × (by ≤ callers)

-- A receive began on the context; a caller, who guessed its name, had ended it before it was given something; it was
-- collected, and the turn was settled
pub record IsLost (k c callers : ℕ) (es : List Entry) : Type 0 where
  pub op : OpName
  pub cause : Cause
  pub by : ℕ
  pub late : List Entry
  pub entries : es ≡ Begin op k c Recv None ∷ End op (Gone cause by) ∷ Took op k ∷ late
  pub by_caller : IsCallersEnd callers cause by
  pub late_settles : AreSettling late

-- a number of receives were lost like this, one after another
abbrev pub AreLost : ℕ → ℕ → ℕ → ℕ → List Entry → Type 0
AreLost zero k c callers es = es ≡ []
AreLost (suc n) k c callers es = (prefix : List Entry) × (last : List Entry) × (es ≡ prefix ++ last) × AreLost n k c callers prefix × IsLost k c callers last

-- what settling records, and then receives that were lost
pub record HasLost (k c callers : ℕ) (es : List Entry) : Type 0 where
  pub early : List Entry
  pub lost : List Entry
  pub count : ℕ
  pub entries : es ≡ early ++ lost
  pub early_settles : AreSettling early
  pub are_lost : AreLost count k c callers lost

-- then one receive was begun, won with this message, and collected, in one turn
pub record HasReceived (m : MessageView) (k c callers : ℕ) (es : List Entry) : Type 0 where
  pub prefix : List Entry
  pub op : OpName
  pub late : List Entry
  pub entries : es ≡ prefix ++ Begin op k c Recv None ∷ End op (Won (Received (text_of m))) ∷ Took op k ∷ late
  pub prefix_lost : HasLost k c callers prefix
  pub late_settles : AreSettling late

-- why nothing was received, by the history with this turn: no receive may begin, or nothing is kept
abbrev pub RefusedNow : NowError → Setting → List Entry → ℕ → Type 0
RefusedNow (now_error.Begin e) z past c = RefusedFor e z past c Recv × (e ≢ error.NoMemory)
RefusedNow now_error.Again z past c =
    (is_closed past ≡ false) × ChecksAct (Ok tt) z past c Recv × (AllTaken z past → ⊥) × (is_nil (kept z past c) ≡ true)

-- what an immediate receive did and returns
abbrev pub ReceivedNow : Result MessageView NowError → Setting → List (Turn Entry) → Turn Entry → ℕ → ℕ → Type 0
ReceivedNow (Ok m) z h t k c = HasReceived m k c z.callers t.entries
ReceivedNow (Err e) z h t k c = HasLost k c z.callers t.entries × RefusedNow e z (past_of (h ++ t ∷ [])) c

-- ---- On the way

-- the receive was begun, ended like this, and was collected
abbrev pub tried : Moment → OpName → ℕ → Ending → Moment
tried t op c ending = also (also (also t (Begin op t.caller c Recv None)) (End op ending)) (Took op t.caller)

-- the result of one try
abbrev pub TriedTo : Result (Option MessageView) NowError → ℕ → Moment → Moment → Type 0
TriedTo (Ok (Some m)) c t u = (op : OpName) × Later (tried t op c (Won (Received (text_of m)))) u
TriedTo (Ok None) c t u = (op : OpName) × (cause : Cause) × (by : ℕ) × IsCallersEnd t.z.callers cause by × Later (tried t op c (Gone cause by)) u
TriedTo (Err e) c t u = (u ≡ t) × RefusedNow e t.z (past t) c

-- how a receive that can be given this message ended
abbrev pub IsGiven : ℕ → RecordedMessage → Ending → Type 0
IsGiven callers m (Won r) = r ≡ Received m
IsGiven callers m (Gone cause by) = IsCallersEnd callers cause by

-- receives were lost since
pub record LostTo (c : ℕ) (t u : Moment) : Type 0 where
  pub same : u ≡ record { z = t.z; caller = t.caller; before = t.before; turn = u.turn }
  pub count : ℕ
  pub lost : List Entry
  pub entries : onto u.turn [] ≡ onto t.turn [] ++ lost
  pub are_lost : AreLost count t.caller c t.z.callers lost

-- the result of all tries
abbrev pub as_try : Result MessageView NowError → Result (Option MessageView) NowError
as_try (Ok m) = Ok (Some m)
as_try (Err e) = Err e

abbrev pub NowTo : Result MessageView NowError → ℕ → Moment → Moment → Type 0
NowTo r c t u = (v : Moment) × LostTo c t v × TriedTo (as_try r) c v u
