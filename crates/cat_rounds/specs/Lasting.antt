-- What holds of a play while it goes on.
use Rattle.std.specs.Prelude.{◌≡◌, ◌+◌, nat_le, ◌||◌, not, ℕ, zero, ⊤, true, false, Bool, IsTrue, List, reverse, Option, Some, None, is_some}
use Rattle.std.specs.List.{list_all}
use Rattle.turn_lock.specs.declared.turn.Turn.{Turn}
use Rattle.sp_base.specs.Outside.{grown}
use Rattle.sp_base.specs.declared.OpName.{OpName}
use Rattle.sp_history.specs.declared.entry.Cause.TheVariants.{SurveyOver}
use Rattle.sp_history.specs.declared.entry.Entry.{Entry}
use Rattle.sp_history.specs.declared.entry.Ending.{Ending as EndingType}
use Rattle.sp_history.specs.declared.entry.Ending.TheVariants.{Won, Gone}
use Rattle.sp_history.specs.declared.entry.Completion.TheVariants.{Received, Sent}
use Rattle.sp_history.specs.declared.setting.Setting.{Setting}
use Rattle.sp_history.specs.Legal.{has_topic}
use Rattle.sp_history.specs.Past.{past_of, is_closed, now, topics}
use Rattle.sp_core.specs.Collecting.{IsOpen}
use Rattle.cat_text.specs.Drafts.{needs_data}
use Rattle.cat_play.specs.Plans.{Play}
use Rattle.cat_play.specs.Scripts.{has_ticked, under_way, last_result, last_send, counted, texts, joined, has_reached, timed_out, over}
use Rattle.cat_play.specs.Playing.{PlaysSoFar, may_rest, was_swept, is_left}
use Rattle.cat_rounds.specs.declared.next.LastCollected.{LastCollected}
use Rattle.cat_rounds.specs.declared.next.LastCollected.TheVariants as lasts
use Rattle.cat_rounds.specs.declared.player.Script.{Script}
use Rattle.cat_rounds.specs.declared.player.PlayEnd.{PlayEnd}
use Rattle.cat_rounds.specs.declared.player.PlayEnd.TheVariants as overs
use Rattle.cat_rounds.specs.declared.player.Player.{Player}

-- ---- The play that is played

-- the play of a script
abbrev pub play_of : Script → Play
play_of s = record { role = s.role; body = s.body; topics = s.topics; count = s.count; interval = s.interval; recv_timeout = s.recv_timeout; send_timeout = s.send_timeout; format = s.format }

-- ---- Surveys

-- a cooked socket whose surveys are live for a second: nng_surveyor(7)
pub record HasSurveys (z : Setting) : Type 0 where
  pub cooked : z.raw ≡ false
  pub time : z.options.survey ≡ 1000

-- no survey was begun, or the time of the last one has passed
abbrev pub is_survey_over : Option ℕ → ℕ → Bool
is_survey_over None t = true
is_survey_over (Some since) t = nat_le (since + 1000) t

-- ---- What the code knows

-- what was collected last
abbrev pub IsLast : LastCollected → Option EndingType → Type 0
IsLast lasts.Nothing r = r ≡ None
IsLast lasts.Received (Some (Won (Received m))) = ⊤
IsLast lasts.Sent (Some (Won Sent)) = ⊤
IsLast lasts.SurveyOver (Some (Gone SurveyOver by)) = ⊤
IsLast lasts.Gone (Some (Gone SurveyOver by)) = ⊥
IsLast lasts.Gone (Some (Gone cause by)) = ⊤
IsLast _ _ = ⊥

-- how many more items are to be counted
abbrev pub IsDue : Option ℕ → Option ℕ → ℕ → Type 0
IsDue None due n = due ≡ None
IsDue (Some count) None n = ⊥
IsDue (Some count) (Some due) n = n + due ≡ count

-- the play is over, and why, or it isn't
abbrev pub IsOver : PlayEnd → Setting → Play → List Entry → Type 0
IsOver overs.Open z play past = over z play past ≡ false
IsOver overs.Finished z play past = IsTrue (has_reached play.count (counted z play past) || timed_out true past)
IsOver overs.SendTimedOut z play past = IsTrue (timed_out false past)

-- the operation under way is open, and belongs to the caller
abbrev pub IsUnderWay : Option OpName → List (Turn Entry) → Type 0
IsUnderWay None h = under_way (past_of h) ≡ None
IsUnderWay (Some op) h = (under_way (past_of h) ≡ Some op) × IsOpen 1 op h

-- between two calls of a run that is open
pub record PlayStands (z : Setting) (h : List (Turn Entry)) (p : Player) : Type 0 where
  pub role : z.role ≡ p.script.role
  pub surveys : HasSurveys z
  -- what is sent has a body
  pub carries : IsTrue (not (needs_data p.script.role) || is_some p.script.body)
  pub is_open : is_closed (past_of h) ≡ false
  pub so_far : PlaysSoFar z (play_of p.script) h
  pub hand : IsUnderWay p.op h
  pub last : IsLast p.last (last_result (past_of h))
  pub sent : last_send (past_of h) ≡ p.last_send
  pub due : IsDue p.script.count p.due (counted z (play_of p.script) (past_of h))
  pub over : IsOver p.over z (play_of p.script) (past_of h)
  -- what had ended when the last tick came is collected, where nothing is under way
  pub idle : p.op ≡ None → is_left (past_of h) ≡ false

-- each of these topics is on, on context 0
abbrev pub AreOn : List (List ℕ) → List Entry → Type 0
AreOn ts past = IsTrue (list_all (has_topic (topics past 0)) ts)

-- the text of the sink grew by the texts of the play
abbrev pub HasPrinted : Option (List ℕ) → Option (List ℕ) → List (Turn Entry) → Player → Type 0
HasPrinted before now h p = now ≡ grown before (joined (texts (play_of p.script) (past_of h)))

-- ---- Rounds

-- the pipes were served since the last tick
abbrev pub HasServed : Setting → List (Turn Entry) → Type 0
HasServed z h = has_ticked (past_of h) ≡ true → was_swept z (reverse h) ≡ true

-- what had ended when the last tick came is collected, and an operation is under way, or none can be
pub record HasPlayed (z : Setting) (h : List (Turn Entry)) (p : Player) : Type 0 where
  pub collected : is_left (past_of h) ≡ false
  pub busy : IsTrue (is_some (under_way (past_of h)) || may_rest z (play_of p.script) (past_of h))

-- the next tick may come
pub record MayTick (z : Setting) (h : List (Turn Entry)) (p : Player) : Type 0 where
  pub served : HasServed z h
  pub collected : is_left (past_of h) ≡ false
  pub topics_on : AreOn p.script.topics (past_of h)
  pub busy : IsTrue (not (has_ticked (past_of h)) || is_some (under_way (past_of h)) || may_rest z (play_of p.script) (past_of h))

-- a play of no items is over before it begins
abbrev pub over_at : Option ℕ → PlayEnd
over_at (Some zero) = overs.Finished
over_at _ = overs.Open

-- a player that has not begun
pub record IsNewPlayer (script : Script) (p : Player) : Type 0 where
  pub script_is : p.script ≡ script
  pub op : p.op ≡ None
  pub due : p.due ≡ script.count
  pub last : p.last ≡ lasts.Nothing
  pub sent : p.last_send ≡ None
  pub over : p.over ≡ over_at script.count
