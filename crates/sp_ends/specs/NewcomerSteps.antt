-- The fate of a link in its greetings.
use Rattle.std.specs.Prelude.{◌≡◌, ◌≤◌, ◌<◌, ◌+◌, ◌++◌, ℕ, ⊤, Bool, true, false, List, [], ◌∷◌, suc, ◌||◌, Option}
use Rattle.turn_lock.specs.declared.turn.Turn.{Turn}
use Rattle.sp_base.specs.Views.{LinkView, NetView}
use Rattle.sp_base.specs.declared.role.Role.{Role}
use Rattle.sp_history.specs.declared.entry.Entry.{Entry}
use Rattle.sp_history.specs.declared.setting.Setting.{Setting}
use Rattle.sp_history.specs.Past.{now, past_of}
use Rattle.sp_history.specs.declared.entry.Miss.{Miss}
use Rattle.sp_ends.specs.declared.newcomer.Newcomer.{Newcomer}
use Rattle.sp_links.specs.declared.way.Way.{Way}
use Rattle.sp_links.specs.Going.{IsUnderWay, IsFresh, WaitsFor}
use Rattle.sp_base.specs.Steps.{AfterGiveBack}
use Rattle.sp_history.specs.declared.entry.Miss.TheVariants as misses
use Rattle.sp_links.specs.declared.opening.Progress.{Progress}
use Rattle.sp_links.specs.declared.opening.Progress.TheVariants as progress
use Rattle.sp_ends.specs.declared.greeting.NewcomerDecision.{NewcomerDecision}
use Rattle.sp_ends.specs.declared.greeting.NewcomerDecision.TheVariants as decisions
use Rattle.core_state.specs.declared.causes.AttachError.{AttachError}
use Rattle.core_state.specs.declared.causes.AttachError.TheVariants as refused
use Rattle.sp_ends.specs.declared.greeting.NewcomerFate.{NewcomerFate}
use Rattle.sp_ends.specs.declared.greeting.NewcomerFate.TheVariants as fates
use Rattle.sp_links.specs.Origins.{IsAmong}
use Rattle.sp_ends.specs.EndViews.{Beginning}
use Rattle.sp_ends.specs.RunLinks.{LinksStand, HandStands, IsOfRun, IsCauseOf}
use Rattle.sp_socket.specs.Singles.{SingleView}
use Rattle.sp_links.specs.declared.opening.Opening.{Opening}
use Rattle.sp_ends.specs.LinkRecords.{has_dry_miss}

-- a newcomer over this link
pub record IsNewcomer {L : Type 0} (seen : L → LinkView) (link : L) (role : Role) (way : Way) (met : ℕ) (from : Option ℕ) (max : ℕ) (n : Newcomer L) : Type 0 where
  pub fresh : IsFresh seen link role way n.opening
  pub under_way : IsUnderWay seen n.opening
  pub met_is : n.met ≡ met
  pub from_is : n.from ≡ from
  pub max_is : n.max ≡ max

-- what is to be done with a link whose greetings have this result, met and asked at these ticks
abbrev pub DecidedFor : NewcomerDecision → Progress → ℕ → ℕ → Type 0
DecidedFor decisions.Stays p met now = (p ≡ progress.Waits) × (now < met + 10000)
DecidedFor decisions.Attach p met now = p ≡ progress.Opened
DecidedFor (decisions.Miss misses.Bad) p met now = p ≡ progress.Bad
DecidedFor (decisions.Miss misses.Ended) p met now = p ≡ progress.Ended
DecidedFor (decisions.Miss misses.Failed) p met now = p ≡ progress.Failed
DecidedFor (decisions.Miss misses.Late) p met now = (p ≡ progress.Waits) × (met + 10000 ≤ now)
DecidedFor (decisions.Miss misses.Refused) p met now = ⊥
DecidedFor (decisions.Miss misses.NoMemory) p met now = p ≡ progress.NoMemory

-- refused when out of memory, or for another cause
abbrev pub MissesFor : AttachError → Miss → Type 0
MissesFor refused.NoMemory miss = miss ≡ misses.NoMemory
MissesFor _ miss = miss ≡ misses.Refused

abbrev pub is_dry_for : Miss → Bool
is_dry_for misses.NoMemory = true
is_dry_for _ = false

abbrev pub is_dry_fate : {L : Type 0} → NewcomerFate L → Bool
is_dry_fate (fates.Stays n) = false
is_dry_fate fates.Up = false
is_dry_fate (fates.Missed miss) = is_dry_for miss

-- the fate of a link that was the first of those that are still to be greeted
abbrev pub FateStands : {L : Type 0} → (L → LinkView) → NewcomerFate L → Setting → Beginning → List (Turn Entry) → NetView → List (Newcomer L) → ℕ → Type 0
FateStands seen (fates.Stays n) z start h net ns k = LinksStand seen z start h net (ns ++ n ∷ []) k
FateStands seen fates.Up z start h net ns k = LinksStand seen z start h net ns k
FateStands seen (fates.Missed miss) z start h net ns k = LinksStand seen z start h net ns k

-- it isn't in progress any more
abbrev pub IsOut : {L : Type 0} → NewcomerFate L → Type 0
IsOut (fates.Stays n) = ⊥
IsOut fates.Up = ⊤
IsOut (fates.Missed miss) = ⊤

-- the link with this place is back
pub record GivesOneBack (place : ℕ) (old new : NetView) : Type 0 where
  pub link : LinkView
  pub is_place : link.place ≡ place
  pub inside : place < old.opened
  pub back : AfterGiveBack link old new

-- a link is back where it was missed
abbrev pub FateBack : {L : Type 0} → NewcomerFate L → ℕ → NetView → NetView → Type 0
FateBack (fates.Stays n) place old new = new.back ≡ old.back
FateBack fates.Up place old new = new.back ≡ old.back
FateBack (fates.Missed miss) place old new = GivesOneBack place old new

-- ---- What holds before and after

-- the links of the run stand with this one first of those that are still to be greeted
abbrev pub IsNextToGreet : {L : Type 0} → (L → LinkView) → Newcomer L → SingleView → NetView → Type 0
IsNextToGreet {L} seen n s net =
    (start : Beginning) × (ns : List (Newcomer L)) × (k : ℕ) × LinksStand seen s.setting start s.seen net (n ∷ ns) (suc k)

-- if they stood like this, they stand after the fate of the link
abbrev pub GreetsTo : {L : Type 0} → (L → LinkView) → Newcomer L → NewcomerFate L → SingleView → SingleView → NetView → NetView → Type 0
GreetsTo {L} seen n fate s s' net net' =
    (start : Beginning) (ns : List (Newcomer L)) (k : ℕ) → LinksStand seen s.setting start s.seen net (n ∷ ns) (suc k) → FateStands seen fate s'.setting start s'.seen net' ns k

-- the links of the run stand with this one in hand
abbrev pub IsInHand : {L : Type 0} → (L → LinkView) → L → SingleView → NetView → Type 0
IsInHand {L} seen link s net =
    (start : Beginning) × (ns : List (Newcomer L)) × (k : ℕ) × HandStands seen s.setting start s.seen net ns k (seen link)

-- they stand with this one in hand, which is open and the run's, with the receive limit of an end
abbrev pub IsOpenInHand : {L : Type 0} → (L → LinkView) → Opening L → ℕ → SingleView → NetView → Type 0
IsOpenInHand {L} seen opening max s net =
    (start : Beginning) × (ns : List (Newcomer L)) × (k : ℕ) × HandStands seen s.setting start s.seen net ns k (seen opening.link) × IsOfRun seen start.origins s.setting opening × IsAmong max start.origins.limits

abbrev pub AttachesTo : {L : Type 0} → (L → LinkView) → Opening L → ℕ → NewcomerFate L → SingleView → SingleView → NetView → NetView → Type 0
AttachesTo {L} seen opening max fate s s' net net' =
    (start : Beginning) (ns : List (Newcomer L)) (k : ℕ) → HandStands seen s.setting start s.seen net ns k (seen opening.link) → IsOfRun seen start.origins s.setting opening → IsAmong max start.origins.limits → FateStands seen fate s'.setting start s'.seen net' ns k

-- where this is the cause, the links of the run stand without it
abbrev pub MissesAs : {L : Type 0} → (L → LinkView) → L → Miss → SingleView → SingleView → NetView → NetView → Type 0
MissesAs {L} seen link why s s' net net' =
    (start : Beginning) (ns : List (Newcomer L)) (k : ℕ) → HandStands seen s.setting start s.seen net ns k (seen link) → IsCauseOf start.origins s.setting s.seen why (seen link) → LinksStand seen s'.setting start s'.seen net' ns k

-- where the flag is true, a link was missed when out of memory between these two
abbrev pub DriesBy : Bool → SingleView → SingleView → Type 0
DriesBy is_dry s s' = has_dry_miss (past_of s'.seen) ≡ (is_dry || has_dry_miss (past_of s.seen))

-- ---- Links that stay

-- its greetings began less than 10,000 milliseconds ago
abbrev pub IsYoung : {L : Type 0} → ℕ → Newcomer L → Type 0
IsYoung now n = now < n.met + 10000

-- a link that stays is as young
abbrev pub FateIsYoung : {L : Type 0} → ℕ → NewcomerFate L → Type 0
FateIsYoung now (fates.Stays n) = IsYoung now n
FateIsYoung now fates.Up = ⊤
FateIsYoung now (fates.Missed miss) = ⊤

-- a link that stays is the same listener's
abbrev pub FateIsFrom : {L : Type 0} → Option ℕ → NewcomerFate L → Type 0
FateIsFrom from (fates.Stays n) = n.from ≡ from
FateIsFrom from fates.Up = ⊤
FateIsFrom from (fates.Missed miss) = ⊤

-- the same link later, which once took nothing of what is still owed, or once brought nothing
pub record HasWaitedOn {L : Type 0} (seen : L → LinkView) (old new : Newcomer L) : Type 0 where
  pub place : (seen new.opening.link).place ≡ (seen old.opening.link).place
  pub waited : WaitsFor seen (seen old.opening.link) new.opening

-- a link that stays has waited
abbrev pub FateHasWaited : {L : Type 0} → (L → LinkView) → Newcomer L → NewcomerFate L → Type 0
FateHasWaited seen n (fates.Stays m) = HasWaitedOn seen n m
FateHasWaited seen n fates.Up = ⊤
FateHasWaited seen n (fates.Missed miss) = ⊤
