-- The results of a run of nngcat: its statuses with their causes, and its record.
use Rattle.std.specs.Prelude.{◌≡◌, ◌≢◌, ◌⊎◌, ◌≤◌, ◌<◌, ℕ, true, false, Bool, IsTrue, ⊤, List, [], ◌∷◌, ◌++◌, Option, Some, None}
use Rattle.std.specs.FinMap.{get}
use Rattle.turn_lock.specs.declared.turn.Turn.{Turn}
use Rattle.sp_base.specs.Outside.{Rose, grown, IsPrefix, Told}
use Rattle.sp_base.specs.SpTcp.{text}
use Rattle.sp_base.specs.Views.{LinkView, NetView, PaceView, SinkView, FilesView}
use Rattle.sp_base.specs.Roles.{role_number}
use Rattle.sp_base.specs.declared.role.Role.{Role}
use Rattle.sp_base.specs.declared.addr.Addr.TheVariants as addrs
use Rattle.sp_base.specs.declared.addr.Scheme.TheVariants as schemes
use Rattle.sp_history.specs.declared.entry.Miss.TheVariants as misses
use Rattle.sp_history.specs.declared.entry.Why.TheVariants as whys
use Rattle.sp_history.specs.declared.entry.Entry.{Entry}
use Rattle.sp_history.specs.declared.entry.Entry.TheVariants.{NoUp}
use Rattle.sp_history.specs.declared.setting.Setting.{Setting}
use Rattle.sp_history.specs.Options.{usual}
use Rattle.sp_history.specs.Past.{past_of, is_closed, outs, down_for}
use Rattle.sp_history.specs.Legal.{Legal}
use Rattle.sp_history.specs.Settled.{Settled}
use Rattle.cat_text.specs.declared.plan.CatPlan.{CatPlan}
use Rattle.cat_text.specs.declared.plan.Data.{Data}
use Rattle.cat_text.specs.declared.plan.Data.TheVariants as datas
use Rattle.cat_text.specs.declared.plan.End.{End}
use Rattle.cat_text.specs.declared.plan.End.TheVariants as ends
use Rattle.cat_text.specs.declared.plan.Plan.{Plan}
use Rattle.cat_text.specs.declared.plan.Plan.TheVariants as plans
use Rattle.cat_play.specs.declared.status.Status.{Status}
use Rattle.cat_play.specs.declared.status.Status.TheVariants as status
use Rattle.cat_play.specs.Plans.{Play, IsPlayOf}
use Rattle.cat_play.specs.Scripts.{counted, texts, joined, has_reached, timed_out, ends_received}
use Rattle.cat_play.specs.Playing.{Plays}
use Rattle.sp_links.specs.Ways.{Ways}
use Rattle.sp_ends.specs.LinkRecords.{lane_place, place_of, Records, AreWhole, has_dry_miss, KeepsOthers}
use Rattle.cat_play.specs.Spending.{Spends, EndsInTime}
use Rattle.cat_play.specs.Drilling.{lines, Drills, GivesAll}

-- the outside of a run
pub record World : Type 0 where
  pub net : NetView
  pub files : FilesView
  pub pace : PaceView
  pub sink : SinkView

abbrev pub world : NetView → FilesView → PaceView → SinkView → World
world net files pace sink = record { net = net; files = files; pace = pace; sink = sink }

-- the socket of a run
abbrev pub run_setting : Role → ℕ → Setting
run_setting role dice = record { role = role; raw = false; options = usual role dice; slots = 16; callers = 1 }

-- ---- Statuses

-- two listens on one name within the process
abbrev pub ListensTwice : List End → Type 0
ListensTwice es =
    (name : List ℕ) × (a : List End) × (b : List End) × (c : List End) × (es ≡ a ++ ends.Listen (addrs.Inproc name) ∷ b ++ ends.Listen (addrs.Inproc name) ∷ c)

-- the play came to its end: the count is reached, or a receive timed out
abbrev pub IsFinished : Setting → Play → List Entry → Type 0
IsFinished z play past =
    IsTrue (has_reached play.count (counted z play past)) ⊎ IsTrue (timed_out true past)

-- why a run with a record ended so
abbrev pub EndedFor : Status → Setting → CatPlan → Play → List Entry → World → World → Type 0
EndedFor status.Done z plan play past old new = IsFinished z play past × AreWhole z new.net past
EndedFor (status.Usage at) z plan play past old new = ⊥
EndedFor status.SendTimedOut z plan play past old new = IsTrue (timed_out false past)
EndedFor status.Over z plan play past old new = new.pace.left ≡ 0
EndedFor status.NetFault z plan play past old new =
    (Rose old.net.faults new.net.faults ⊎ ListensTwice plan.ends) × (new.pace.left ≡ old.pace.left) × (new.net.opened ≡ old.net.opened)
EndedFor status.OutFault z plan play past old new = Rose old.sink.faults new.sink.faults × IsTrue (ends_received past)
EndedFor status.FileFault z plan play past old new = ⊥
EndedFor status.NoMemory z plan play past old new = ⊤

-- why no socket was opened for a plan: the file can't be read, or the run is out of memory
abbrev pub UnopenedFor : Status → World → World → Type 0
UnopenedFor status.FileFault old new = Rose old.files.faults new.files.faults
UnopenedFor status.NoMemory old new = ⊤
UnopenedFor _ old new = ⊥

-- nothing was asked of net, pace and sink
pub record Untried (old new : World) : Type 0 where
  pub net : new.net ≡ old.net
  pub pace : new.pace ≡ old.pace
  pub sink : new.sink ≡ old.sink

-- the pace has returned that no turn is left exactly where the run ends for that
pub record PacedBy (s : Status) (old new : World) : Type 0 where
  pub over : s ≡ status.Over → (new.pace.left ≡ 0) × (new.pace.is_over ≡ true)
  pub not_over : ¬ (s ≡ status.Over) → new.pace.is_over ≡ old.pace.is_over

-- the files hold what they held; where the plan names none they were not asked
pub record FilesBy (data_ : Data) (old new : World) : Type 0 where
  pub holds : new.files.holds ≡ old.files.holds
  pub faults : old.files.faults ≤ new.files.faults
  pub unasked : ((name : List ℕ) → data_ ≡ datas.File name → ⊥) → new.files ≡ old.files

-- ---- The record

-- all of these texts, or a prefix of the last one in its place
abbrev pub IsCutShort : List (List ℕ) → List ℕ → Type 0
IsCutShort ts piece = (piece ≡ joined ts)
    ⊎ ((before : List (List ℕ)) × (last : List ℕ) × (prefix : List ℕ) × (ts ≡ before ++ last ∷ []) × IsPrefix prefix last × (piece ≡ joined before ++ prefix))

-- the sink's text grew by these; where a put failed or the run was out of memory, the last may be cut short
abbrev pub Printed : Status → List (List ℕ) → World → World → Type 0
Printed status.OutFault ts old new = (piece : List ℕ) × IsCutShort ts piece × (new.sink.text ≡ grown old.sink.text piece)
Printed status.NoMemory ts old new = (piece : List ℕ) × IsCutShort ts piece × (new.sink.text ≡ grown old.sink.text piece)
Printed _ ts old new = new.sink.text ≡ grown old.sink.text (joined ts)

-- a run that opened its socket
pub record Runs (ways : Ways) (s : Status) (plan : CatPlan) (play : Play) (dice : ℕ) (record_ : List (Turn Entry)) (old new : World) : Type 0 where
  pub legal : Legal (run_setting plan.role dice) record_
  pub settled : Settled (run_setting plan.role dice) record_
  pub closed : IsTrue (is_closed (past_of record_))
  pub plays : Plays (run_setting plan.role dice) play record_
  pub printed : Printed s (texts play (past_of record_)) old new
  pub records : Records ways (run_setting plan.role dice) (plan.recv_max ∷ []) old.net.opened new.net.opened new.net.back record_
  pub others : KeepsOthers old.net new.net
  pub spends : Spends plan.ends record_ old.net new.net old.pace new.pace
  pub ended : EndedFor s (run_setting plan.role dice) plan play (past_of record_) old new
  pub paced : PacedBy s old new
  -- a put that fails ends the run
  pub faultless : ¬ (s ≡ status.OutFault) → new.sink.faults ≡ old.sink.faults
  -- out of memory for a link ends the run
  pub memory : has_dry_miss (past_of record_) ≡ true → s ≡ status.NoMemory

-- the result of a plan: no socket was opened, or this is its record
abbrev pub RunsPlan : Ways → Status → CatPlan → ℕ → Option (List (Turn Entry)) → World → World → Type 0
RunsPlan ways s plan dice None old new = UnopenedFor s old new × Untried old new
RunsPlan ways s plan dice (Some record_) old new = (play : Play) × IsPlayOf plan old.files play × Runs ways s plan play dice record_ old new

-- the run was called off: the pace was over, or it was out of memory
abbrev pub is_called_off : Status → Bool
is_called_off status.Over = true
is_called_off status.NoMemory = true
is_called_off _ = false

-- the rounds after the end of a plan's play have their excuse
abbrev pub EndsPlan : Status → CatPlan → ℕ → Option (List (Turn Entry)) → World → World → Type 0
EndsPlan s plan dice None old new = ⊤
EndsPlan s plan dice (Some record_) old new =
    (play : Play) → IsPlayOf plan old.files play → EndsInTime (is_called_off s) (run_setting plan.role dice) play record_ old.net new.net

-- the result of a drill: the three lines at its end, a prefix of them where a put failed or it was out of memory, and
-- no other status
abbrev pub DrillsTo : Status → ℕ → List (Turn Entry) → World → World → Type 0
DrillsTo status.Done n record_ old new = (new.sink.text ≡ grown old.sink.text (lines n)) × GivesAll n record_
DrillsTo status.OutFault n record_ old new = Printed status.OutFault (lines n ∷ []) old new × Rose old.sink.faults new.sink.faults
DrillsTo status.NoMemory n record_ old new = Printed status.NoMemory (lines n ∷ []) old new
DrillsTo _ n record_ old new = ⊥

abbrev pub RunsDrill : Status → ℕ → Option (List (Turn Entry)) → World → World → Type 0
RunsDrill s n None old new = (s ≡ status.NoMemory) × (new.sink ≡ old.sink)
RunsDrill s n (Some record_) old new = Drills record_ × DrillsTo s n record_ old new

-- the result of words with a plan
abbrev pub RunsAs : (CatPlan → Ways) → Status → Plan → ℕ → Option (List (Turn Entry)) → World → World → Type 0
RunsAs ways s (plans.Cat plan) dice record_ old new =
    RunsPlan (ways plan) s plan dice record_ old new × FilesBy plan.data_ old new
RunsAs ways s (plans.Drill count) dice record_ old new =
    RunsDrill s count record_ old new × (new.net ≡ old.net) × (new.files ≡ old.files) × (new.pace ≡ old.pace)

-- the result of words without a plan
pub record RunsNothing (record_ : Option (List (Turn Entry))) (old new : World) : Type 0 where
  pub no_record : record_ ≡ None
  pub untried : Untried old new
  pub files : new.files ≡ old.files

-- no fault of net, files and sink was counted, no name within the process is listened on twice, and turns are left
pub record IsSpared (plan : CatPlan) (old new : World) : Type 0 where
  pub once : ListensTwice plan.ends → ⊥
  pub net : Rose old.net.faults new.net.faults → ⊥
  pub files : Rose old.files.faults new.files.faults → ⊥
  pub sink : Rose old.sink.faults new.sink.faults → ⊥
  pub turns : new.pace.left ≡ 0 → ⊥

-- the play came to its end, or it was out of memory
abbrev pub ComesToEnd : Status → Type 0
ComesToEnd status.Done = ⊤
ComesToEnd status.SendTimedOut = ⊤
ComesToEnd status.NoMemory = ⊤
ComesToEnd _ = ⊥
