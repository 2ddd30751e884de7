-- What holds of a run between two rounds, and its result.
use Rattle.std.specs.Prelude.{◌≡◌, ◌<◌, ◌+◌, ◌^◌, ◌⊎◌, ℕ, ⊤, true, false, Bool, List, length, Option, Some, None, nat_lt}
use Rattle.turn_lock.specs.declared.turn.Turn.{Turn}
use Rattle.sp_base.specs.Views.{LinkView, NetView, PaceView, SinkView}
use Rattle.sp_history.specs.declared.entry.Entry.{Entry}
use Rattle.sp_history.specs.Past.{past_of, up, now, is_cleared}
use Rattle.sp_history.specs.Lists.{has}
use Rattle.core_state.specs.declared.served.Served.{Served}
use Rattle.sp_socket.specs.Singles.{SingleView}
use Rattle.sp_lane.specs.Registry.{Registry}
use Rattle.sp_ends.specs.NameTurns.{TurnsLanes}
use Rattle.sp_ends.specs.EndViews.{EndsView, LinkEndsView, Beginning}
use Rattle.sp_ends.specs.RunLinks.{EndsStand}
use Rattle.sp_ends.specs.SocketSteps.{IsDry}
use Rattle.cat_play.specs.declared.status.Status.{Status}
use Rattle.cat_play.specs.declared.status.Status.TheVariants as status
use Rattle.sp_ends.specs.LinkRecords.{has_dry_miss}
use Rattle.sp_history.specs.Found.{ticks}
use Rattle.cat_rounds.specs.declared.player.PlayEnd.TheVariants as overs
use Rattle.cat_rounds.specs.declared.player.Player.{Player}
use Rattle.cat_rounds.specs.declared.rounds.Round.{Round}
use Rattle.cat_rounds.specs.declared.rounds.Round.TheVariants as rounds
use Rattle.cat_rounds.specs.declared.rounds.Going.{Going}
use Rattle.cat_rounds.specs.declared.rounds.Going.TheVariants as goings
use Rattle.cat_rounds.specs.Lasting.{PlayStands, HasPrinted, MayTick, HasPlayed, HasServed}
use Rattle.cat_rounds.specs.PlayerSteps.{HasPrintedCut, HasFailed, PrintsOn, SameScript}
use Rattle.sp_ends.specs.EndsTurns.{SameEnds}
use Rattle.cat_rounds.specs.declared.stillness.Stillness.{Stillness}
use Rattle.cat_rounds.specs.Parts.{IsSoundRun, RunPartsView}
use Rattle.cat_rounds.specs.Stillness.{noted_still, gives_up}

-- what holds of the ends of a run on its socket, where a link was missed when out of memory, or none was
pub record LinksStand {L : Type 0} (seen : L → LinkView) (start : Beginning) (s : SingleView) (ends : LinkEndsView L) (net : NetView) (is_dry : Bool) : Type 0 where
  pub ends_stand : EndsStand seen s.setting start s.seen net ends
  pub dry : IsDry is_dry s

-- the parts of a run that is open, between two calls of a round after the turn of the ends
pub record RunStands {L : Type 0} (seen : L → LinkView) (start : Beginning) (s : SingleView) (ends : LinkEndsView L) (p : Player) (net : NetView) (is_dry : Bool) : Type 0 where
  pub sound : IsSoundRun s
  pub play : PlayStands s.setting s.seen p
  pub ends_stand : EndsStand seen s.setting start s.seen net ends
  pub dry : IsDry is_dry s

-- all that was put on each pipe that is up is written
abbrev pub AreCleared : List Entry → Type 0
AreCleared past = (p : ℕ) → has (up past) p ≡ true → is_cleared past p ≡ true

-- a pipe has something left to write
abbrev pub has_more : Served → Bool
has_more r = nat_lt 0 r.waiting

-- nothing is under way, the play came to its end, and all is written
pub record IsThrough (s : SingleView) (p : Player) : Type 0 where
  pub free : p.op ≡ None
  pub cleared : AreCleared (past_of s.seen)

-- all is written, or the run was given up: no link has taken a byte since some tick for as long as a send may take
abbrev pub IsThroughOrGivenUp : SingleView → Player → Type 0
IsThroughOrGivenUp s p =
    IsThrough s p ⊎ (p.op ≡ None) × ((still : Stillness) × (gives_up p.over p.script.send_timeout still (now (past_of s.seen)) ≡ true))

-- ---- Parts of a round

-- what a part of a round left
abbrev pub GoesTo : Going → SingleView → Player → Type 0
GoesTo (goings.Rests moved) s p = HasServed s.setting s.seen × HasPlayed s.setting s.seen p
GoesTo goings.Over s p = (p.op ≡ None) × (p.over ≡ overs.Open → ⊥)
GoesTo goings.OutFault s p = ⊤
GoesTo goings.NoMemory s p = ⊤

abbrev pub PrintsGoing : Going → Option (List ℕ) → Option (List ℕ) → List (Turn Entry) → Player → Type 0
PrintsGoing (goings.Rests moved) before now h p = HasPrinted before now h p
PrintsGoing goings.Over before now h p = HasPrinted before now h p
PrintsGoing goings.OutFault before now h p = HasFailed before now h p
PrintsGoing goings.NoMemory before now h p = HasPrintedCut before now h p

-- the result is that the output failed
abbrev pub is_failed_part : Going → Bool
is_failed_part goings.OutFault = true
is_failed_part _ = false

-- ---- Rounds

-- what a round left
abbrev pub RoundGoesTo : Round → SingleView → Player → Type 0
RoundGoesTo (rounds.Goes moved) s p = MayTick s.setting s.seen p
RoundGoesTo (rounds.Ends status.Done) s p = IsThrough s p × (p.over ≡ overs.Finished)
RoundGoesTo (rounds.Ends status.SendTimedOut) s p = IsThroughOrGivenUp s p × (p.over ≡ overs.SendTimedOut)
RoundGoesTo (rounds.Ends status.OutFault) s p = ⊤
RoundGoesTo (rounds.Ends status.NoMemory) s p = ⊤
RoundGoesTo (rounds.Ends _) s p = ⊥

-- why it goes on when the play is over, or ends: a pipe has something left to write, and the run isn't given up
abbrev pub DrainsFor : Round → ℕ → SingleView → Player → Stillness → Type 0
DrainsFor (rounds.Goes moved) now s p still = gives_up p.over p.script.send_timeout still now ≡ false
DrainsFor (rounds.Ends why) now s p still = AreCleared (past_of s.seen) ⊎ (gives_up p.over p.script.send_timeout still now ≡ true)

-- when the play is over, how much the links have taken is recorded, and then the run goes on or ends
abbrev pub Drains : Round → ℕ → Option Stillness → SingleView → Player → Option Stillness → Type 0
Drains result now before s p after =
    (taken : ℕ) × (after ≡ Some (noted_still before taken now)) × DrainsFor result now s p (noted_still before taken now)

abbrev pub PrintsRound : Round → Option (List ℕ) → Option (List ℕ) → List (Turn Entry) → Player → Type 0
PrintsRound (rounds.Ends status.OutFault) before now h p = HasFailed before now h p
PrintsRound (rounds.Ends status.NoMemory) before now h p = HasPrintedCut before now h p
PrintsRound _ before now h p = HasPrinted before now h p

abbrev pub is_failed_run : Status → Bool
is_failed_run status.OutFault = true
is_failed_run _ = false

abbrev pub is_failed_round : Round → Bool
is_failed_round (rounds.Goes moved) = false
is_failed_round (rounds.Ends why) = is_failed_run why

-- the names were dialed and asked once, in the registry that the round found, and the round leaves it like that
abbrev pub TurnsNames : {L : Type 0} → ℕ → EndsView L → EndsView L → Registry → Registry → Type 0
TurnsNames now old new reg reg' =
    (s : SingleView) × (s' : SingleView) × TurnsLanes now old.links.role old.names.names s s' reg reg' old.names.callers new.names.callers

-- a link was missed when out of memory only where the round ends for that
abbrev pub RoundStands : {L : Type 0} → (L → LinkView) → Beginning → Round → SingleView → LinkEndsView L → Player → NetView → Type 0
RoundStands seen start (rounds.Ends status.NoMemory) s ends p net = (is_dry : Bool) × RunStands seen start s ends p net is_dry
RoundStands seen start _ s ends p net = RunStands seen start s ends p net false

-- the last tick of the history
abbrev pub past_now : SingleView → ℕ
past_now s = now (past_of s.seen)

-- the round ticked once, at this moment
pub record TicksOnce (t : ℕ) (old new : SingleView) : Type 0 where
  pub now_is : past_now new ≡ t
  pub ticks_are : length (ticks (past_of new.seen)) ≡ length (ticks (past_of old.seen)) + 1

-- ---- All rounds

-- a link was missed when out of memory
abbrev pub is_dry_at : SingleView → Bool
is_dry_at s = has_dry_miss (past_of s.seen)

-- only where the run ends for that
abbrev pub IsDryAt : Status → SingleView → Type 0
IsDryAt status.NoMemory s = ⊤
IsDryAt _ s = is_dry_at s ≡ false

-- why the rounds ended like this
abbrev pub WentOrOver : Status → SingleView → Player → SinkView → SinkView → PaceView → Type 0
WentOrOver status.Over s p out out' pace = (pace.left ≡ 0) × (pace.is_over ≡ true)
WentOrOver status.Done s p out out' pace = IsThrough s p × (p.over ≡ overs.Finished)
WentOrOver status.SendTimedOut s p out out' pace = IsThroughOrGivenUp s p × (p.over ≡ overs.SendTimedOut)
WentOrOver status.OutFault s p out out' pace = ⊤
WentOrOver status.NoMemory s p out out' pace = ⊤
WentOrOver _ s p out out' pace = ⊥

-- what the pace gave and returned
pub record PacedTo (s : Status) (old new : PaceView) (past : List Entry) : Type 0 where
  pub left : old.left ≡ new.left + length (ticks past)
  pub few : length (ticks past) < 2 ^ 64
  pub over : s ≡ status.Over → new.is_over ≡ true
  pub not_over : ¬ (s ≡ status.Over) → new.is_over ≡ old.is_over

-- the contents of the sink when the rounds ended like this
abbrev pub PrintsTo : Status → Option (List ℕ) → Option (List ℕ) → List (Turn Entry) → Player → Type 0
PrintsTo status.OutFault before now h p = HasFailed before now h p
PrintsTo status.NoMemory before now h p = HasPrintedCut before now h p
PrintsTo _ before now h p = HasPrinted before now h p

-- ---- Before and after

-- what an open run requires, besides what holds of the parts of every run
abbrev pub RunIsOpen : {L : Type 0} → (L → LinkView) → RunPartsView L → NetView → Type 0
RunIsOpen seen r net = (start : Beginning) × LinksStand seen start r.single r.ends.links net false

-- an open run goes on, and what held between two rounds still holds
abbrev pub RunGoesOn : {L : Type 0} → (L → LinkView) → RunPartsView L → RunPartsView L → NetView → NetView → Type 0
RunGoesOn seen r r' net net' =
    (start : Beginning) → RunStands seen start r.single r.ends.links r.player net false → RunStands seen start r'.single r'.ends.links r'.player net' (is_dry_at r'.single)

-- one round of it does
abbrev pub RoundGoesOn : {L : Type 0} → (L → LinkView) → Round → RunPartsView L → RunPartsView L → NetView → NetView → Type 0
RoundGoesOn seen result r r' net net' =
    (start : Beginning) → LinksStand seen start r.single r.ends.links net false → RoundStands seen start result r'.single r'.ends.links r'.player net'

-- the same run: its ends, its script, and the setting of its socket
abbrev pub SameRun : {L : Type 0} → RunPartsView L → RunPartsView L → Type 0
SameRun r r' =
    SameEnds r.ends.links r'.ends.links × SameScript r.player r'.player × (r'.single.setting ≡ r.single.setting)

-- the text in the sink grew like this
abbrev pub PrintsRun : {L : Type 0} → (Option (List ℕ) → Option (List ℕ) → List (Turn Entry) → Player → Type 0) → SinkView → SinkView → RunPartsView L → RunPartsView L → Type 0
PrintsRun says out out' r r' = PrintsOn says out out' r.single r'.single r.player r'.player
