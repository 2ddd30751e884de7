-- What a step of the play does.
use Rattle.std.specs.Prelude.{◌≡◌, ◌==◌, ◌-◌, ◌++◌, ℕ, ⊤, true, false, Bool, not, ◌&&◌, ◌||◌, IsTrue, List, Option, Some, is_some, is_none, None, if◌then◌else◌, ◌⊎◌}
use Rattle.turn_lock.specs.declared.turn.Turn.{Turn}
use Rattle.sp_base.specs.Outside.{grown, Rose}
use Rattle.sp_base.specs.Views.{SinkView}
use Rattle.sp_history.specs.declared.entry.Cause.{Cause}
use Rattle.sp_history.specs.declared.entry.Cause.TheVariants.{TimedOut, SurveyOver}
use Rattle.sp_history.specs.declared.entry.Entry.{Entry}
use Rattle.sp_history.specs.declared.entry.Entry.TheVariants.{Begin, Tick}
use Rattle.sp_history.specs.Lists.{is_nil}
use Rattle.sp_history.specs.Setting.{is_req, floods}
use Rattle.sp_history.specs.Past.{past_of, up}
use Rattle.sp_msg.specs.Views.{MessageView}
use Rattle.core_state.specs.declared.causes.BeginError.{BeginError}
use Rattle.core_state.specs.declared.causes.BeginError.TheVariants as error
use Rattle.core_state.specs.declared.outcome.Outcome.{Outcome}
use Rattle.core_state.specs.declared.outcome.Outcome.TheVariants as outcomes
use Rattle.sp_socket.specs.Singles.{SingleView, IsSound, IsNow, cancelled_of}
use Rattle.cat_rounds.specs.Parts.{IsSoundRun}
use Rattle.cat_text.specs.Printing.{print}
use Rattle.cat_play.specs.Scripts.{texts, ends_received}
use Rattle.cat_play.specs.Playing.{is_surveyor}
use Rattle.cat_play.specs.Running.{IsCutShort}
use Rattle.sp_ends.specs.Entries.{AddsNone, moves_ends}
use Rattle.cat_rounds.specs.declared.next.LastCollected.{LastCollected}
use Rattle.cat_rounds.specs.declared.next.LastCollected.TheVariants as lasts
use Rattle.cat_rounds.specs.declared.player.PlayEnd.{PlayEnd}
use Rattle.cat_rounds.specs.declared.player.PlayEnd.TheVariants as overs
use Rattle.cat_rounds.specs.declared.player.StepResult.{StepResult}
use Rattle.cat_rounds.specs.declared.player.StepResult.TheVariants as steps
use Rattle.cat_rounds.specs.declared.player.Collecting.{Collecting}
use Rattle.cat_rounds.specs.declared.player.Collecting.TheVariants as collecting
use Rattle.cat_rounds.specs.declared.player.Script.{Script}
use Rattle.cat_rounds.specs.declared.player.Player.{Player}
use Rattle.cat_rounds.specs.Lasting.{play_of, PlayStands, HasPrinted, HasPlayed, AreOn}
use Rattle.sp_base.specs.declared.OpName.{OpName}

-- ---- Before and after

-- the play corresponds to the socket at this moment, and the socket's history is sound
pub record Stands (s : SingleView) (p : Player) (now : ℕ) : Type 0 where
  pub play : PlayStands s.setting s.seen p
  pub sound : IsSoundRun s
  pub now_is : IsNow now s
  -- so an operation may begin
  pub topics_on : AreOn p.script.topics (past_of s.seen)

-- further turns, none of which moves a link between the net, the ends and the socket
pub record GoesOnBy (old new : SingleView) : Type 0 where
  pub setting : new.setting ≡ old.setting
  pub links : AddsNone moves_ends old.seen new.seen

-- the same script and the same text before it
abbrev pub SameScript : Player → Player → Type 0
SameScript old new = new.script ≡ old.script

-- whether a pipe is up is known, where the first send waits for one
abbrev pub KnowsPipes : Bool → SingleView → Player → Type 0
KnowsPipes has_pipe s p =
    floods p.script.role ≡ true → is_some p.script.body ≡ true → p.op ≡ None → p.last_send ≡ None → is_nil (up (past_of s.seen)) ≡ not has_pipe

-- ---- What is printed

-- a prefix of the last text, or the whole text, is in the sink after the earlier texts
abbrev pub HasPrintedCut : Option (List ℕ) → Option (List ℕ) → List (Turn Entry) → Player → Type 0
HasPrintedCut before now h p =
    (piece : List ℕ) × IsCutShort (texts (play_of p.script) (past_of h)) piece × (now ≡ grown before piece)

-- the same, where the last text is that of the receive that was collected last, after which nothing was begun
abbrev pub HasFailed : Option (List ℕ) → Option (List ℕ) → List (Turn Entry) → Player → Type 0
HasFailed before now h p = HasPrintedCut before now h p × (p.op ≡ None) × IsTrue (ends_received (past_of h))

abbrev pub PrintedAfter : StepResult → Option (List ℕ) → Option (List ℕ) → List (Turn Entry) → Player → Type 0
PrintedAfter steps.Begun before now h p = HasPrinted before now h p
PrintedAfter steps.Rests before now h p = HasPrinted before now h p
PrintedAfter steps.OutFault before now h p = HasFailed before now h p
PrintedAfter steps.NoMemory before now h p = HasPrintedCut before now h p

abbrev pub PrintedThen : Collecting → Option (List ℕ) → Option (List ℕ) → List (Turn Entry) → Player → Type 0
PrintedThen collecting.Free before now h p = HasPrinted before now h p
PrintedThen collecting.NotYet before now h p = HasPrinted before now h p
PrintedThen collecting.OutFault before now h p = HasFailed before now h p
PrintedThen collecting.NoMemory before now h p = HasPrintedCut before now h p

-- for any contents of the sink before all texts, this holds of its contents after these turns
abbrev pub PrintsOn : (Option (List ℕ) → Option (List ℕ) → List (Turn Entry) → Player → Type 0) → SinkView → SinkView → SingleView → SingleView → Player → Player → Type 0
PrintsOn says out out' s s' p p' =
    (before : Option (List ℕ)) → HasPrinted before out.text s.seen p → says before out'.text s'.seen p'

-- no text is due for the turns between these
abbrev pub AddsNoText : Script → SingleView → SingleView → Type 0
AddsNoText script s s' = texts (play_of script) (past_of s'.seen) ≡ texts (play_of script) (past_of s.seen)

-- the sink failed (true), or counted no fault
abbrev pub Sinks : Bool → SinkView → SinkView → Type 0
Sinks true old new = Rose old.faults new.faults
Sinks false old new = new.faults ≡ old.faults

-- the result is that the output failed
abbrev pub is_failed_step : StepResult → Bool
is_failed_step steps.OutFault = true
is_failed_step _ = false

abbrev pub is_failed_collect : Collecting → Bool
is_failed_collect collecting.OutFault = true
is_failed_collect _ = false

-- ---- Collecting

-- the text that a message is printed as, put into the sink
abbrev pub Puts : Collecting → Player → MessageView → Option (List ℕ) → Option (List ℕ) → Type 0
Puts collecting.Free p m before now = now ≡ grown before (print p.script.format m.body)
Puts collecting.NotYet p m before now = ⊥
Puts collecting.OutFault p m before now = (prefix : List ℕ) × (rest : List ℕ) × (print p.script.format m.body ≡ prefix ++ rest) × (now ≡ grown before prefix)
Puts collecting.NoMemory p m before now = now ≡ before

-- one more item was counted, if it counts
abbrev pub less_due : Bool → Option ℕ → Option ℕ
less_due true (Some n) = Some (n - 1)
less_due _ due = due

abbrev pub is_last_item : Bool → Option ℕ → Bool
is_last_item true (Some due) = due == 1
is_last_item _ due = false

abbrev pub over_after : Bool → PlayEnd → PlayEnd
over_after true o = overs.Finished
over_after false o = o

-- the player after this result of an operation: whether it counts, and what was collected last
abbrev pub counts_one : Bool → LastCollected → Player → Player
counts_one c last p = record p { last = last; due = less_due c p.due; over = over_after (is_last_item c p.due) p.over }

-- the player after an operation timed out, a receive or a send
abbrev pub over_for : Bool → PlayEnd
over_for true = overs.Finished
over_for false = overs.SendTimedOut

-- the table of what counts, by whether no survey is live and by what was collected last
abbrev pub counts_for_last : Script → Bool → LastCollected → Bool
counts_for_last s is_over lasts.Nothing = false
counts_for_last s is_over lasts.Gone = false
counts_for_last s is_over lasts.SurveyOver = is_surveyor s.role
counts_for_last s is_over lasts.Received =
    if is_surveyor s.role then is_over else is_req s.role || not (is_some s.body)
counts_for_last s is_over lasts.Sent = if is_surveyor s.role then is_over else not (is_req s.role) && is_some s.body

-- the player after an operation ended without success, a receive or a send
abbrev pub gone_for : Bool → Cause → Bool → Player → Player
gone_for is_over SurveyOver receives p = counts_one (counts_for_last p.script is_over lasts.SurveyOver) lasts.SurveyOver p
gone_for is_over TimedOut receives p = record p { last = lasts.Gone; over = over_for receives }
gone_for is_over cause receives p = record p { last = lasts.Gone }

-- the player after this result of an operation; its buffer may have changed
abbrev pub AsCounted : Player → Player → Type 0
AsCounted counted new = new ≡ record counted { text = new.text }

-- the same, with what it counts
abbrev pub AsLast : Bool → LastCollected → Player → Player → Type 0
AsLast is_over last old new = AsCounted (counts_one (counts_for_last old.script is_over last) last old) new

-- the player after an outcome. The flag says whether no survey is live
abbrev pub NotedAs : Bool → Outcome → Player → Player → Type 0
NotedAs is_over (outcomes.Received m) old new = AsLast is_over lasts.Received old new
NotedAs is_over outcomes.Sent old new = AsLast is_over lasts.Sent old new
NotedAs is_over (outcomes.Gone cause by back) old new = new ≡ gone_for is_over cause (is_none back) old

-- what it puts into the sink
abbrev pub PutsFor : Outcome → Collecting → Player → Option (List ℕ) → Option (List ℕ) → Type 0
PutsFor (outcomes.Received m) result p before now = Puts result p m before now
PutsFor _ result p before now = (result ≡ collecting.Free) × (now ≡ before)

-- a piece that was put into the sink
abbrev pub PutsPiece : Collecting → List ℕ → Option (List ℕ) → Option (List ℕ) → Type 0
PutsPiece collecting.Free piece before now = now ≡ grown before piece
PutsPiece collecting.OutFault piece before now = (prefix : List ℕ) × (rest : List ℕ) × (piece ≡ prefix ++ rest) × (now ≡ grown before prefix)
PutsPiece _ piece before now = ⊥

-- ---- The step

-- where the step succeeded: what had ended is collected, and an operation is under way, or none can be
abbrev pub Rested : StepResult → SingleView → Player → Type 0
Rested steps.Begun s p = HasPlayed s.setting s.seen p
Rested steps.Rests s p = HasPlayed s.setting s.seen p
Rested steps.OutFault s p = ⊤
Rested steps.NoMemory s p = ⊤

-- the result of a step whose begin was refused
abbrev pub step_for : BeginError → StepResult
step_for error.NoMemory = steps.NoMemory
step_for _ = steps.Rests

-- nothing is under way now, or what was under way before
abbrev pub IsKept : Option OpName → Option OpName → Type 0
IsKept old new = (new ≡ None) ⊎ (new ≡ old)

-- ---- The end

-- the entry is a tick or a begin
abbrev pub begins_or_ticks : Entry → Bool
begins_or_ticks (Tick t due) = true
begins_or_ticks (Begin op k c act d) = true
begins_or_ticks _ = false

-- turns after the close, without a tick and without a begin, none of which moves a link or cancels
pub record CollectsLast (old new : SingleView) : Type 0 where
  pub setting : new.setting ≡ old.setting
  pub sound : IsSound new
  pub cancelled : cancelled_of new ≡ cancelled_of old
  pub links : AddsNone moves_ends old.seen new.seen
  pub turns : AddsNone begins_or_ticks old.seen new.seen
