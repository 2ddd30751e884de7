-- What holds of the links that a net handed out, by the record of the socket.
use Rattle.std.specs.Prelude.{◌≡◌, ◌≢◌, ◌⊎◌, ◌≤◌, ◌<◌, ◌-◌, ◌+◌, ◌^◌, ◌==◌, ℕ, nat_le, nat_lt, Bool, true, false, not, ◌&&◌, ◌||◌, IsTrue, ⊤, if◌then◌else◌, List, [], ◌∷◌, ◌++◌, length, Option, Some, None, is_some, is_none}
use Rattle.std.specs.List.{list_any}
use Rattle.std.specs.FinMap.{FinMap, get}
use Rattle.std.specs.Ordering.{nat_cmp}
use Rattle.turn_lock.specs.declared.turn.Turn.{Turn}
use Rattle.sp_base.specs.Outside.{IsPrefix, Told}
use Rattle.sp_base.specs.SpStream.{scheme_under, stream_text, stream_shows, IsStreamBad}
use Rattle.sp_base.specs.declared.framing.Framing.{Framing}
use Rattle.sp_base.specs.Views.{LinkView, NetView}
use Rattle.sp_base.specs.Roles.{role_number}
use Rattle.sp_base.specs.declared.OpName.{OpName}
use Rattle.sp_history.specs.declared.entry.Cause.TheVariants.{TimedOut}
use Rattle.sp_history.specs.declared.entry.Ending.TheVariants.{Gone}
use Rattle.sp_history.specs.declared.entry.Miss.{Miss}
use Rattle.sp_history.specs.declared.entry.Miss.TheVariants as misses
use Rattle.sp_history.specs.declared.entry.Why.{Why}
use Rattle.sp_history.specs.declared.entry.Why.TheVariants as whys
use Rattle.sp_history.specs.declared.entry.Entry.{Entry}
use Rattle.sp_history.specs.declared.entry.Entry.TheVariants.{Up, Met, NoUp, End, Tick}
use Rattle.sp_history.specs.declared.setting.Setting.{Setting}
use Rattle.sp_history.specs.Setting.{is_pair}
use Rattle.sp_history.specs.Lists.{has, without, is_nil, same_op}
use Rattle.sp_history.specs.Legal.{last_is_malformed}
use Rattle.sp_history.specs.Past.{past_of, up, ups, untaken, frames, outs, now, is_closed, down_for, limit_of}
use Rattle.sp_links.specs.Ways.{Ways, peer_number, IsComplete, IsSpoilt, WroteOrStalled, HasOpened, BeganSo}
use Rattle.sp_links.specs.Origins.{IsAmong}
use Rattle.sp_ends.specs.Entries.{each}

-- ---- Places

-- the place of a pipe that has no link of a net
abbrev pub lane_place : ℕ
lane_place = 2 ^ 32 - 1

-- the link over which the pipe came up
abbrev pub place_of : List Entry → ℕ → Option ℕ
place_of [] p = None
place_of (Up q place limit name ∷ past) p = if q == p then Some place else place_of past p
place_of (_ ∷ past) p = place_of past p

-- the tick at which the link was met
abbrev pub met_at : List Entry → ℕ → Option ℕ
met_at [] place = None
met_at (Met other ∷ past) place = if other == place then Some (now past) else met_at past place
met_at (_ ∷ past) place = met_at past place

-- the links in progress: met, and neither up nor missed
abbrev pub greeting : List Entry → List ℕ
greeting [] = []
greeting (Met place ∷ past) = greeting past ++ place ∷ []
greeting (Up p place limit name ∷ past) = without (greeting past) place
greeting (NoUp place miss ∷ past) = without (greeting past) place
greeting (_ ∷ past) = greeting past

-- a link of the run is met once, and after that comes up or is missed, once; a lane comes up unmet
abbrev pub keeps_places : ℕ → ℕ → List Entry → Entry → Bool
keeps_places first opened past (Met place) = nat_le first place && nat_lt place opened && is_none (met_at past place)
keeps_places first opened past (Up p place limit name) = (place == lane_place) || has (greeting past) place
keeps_places first opened past (NoUp place miss) = has (greeting past) place
keeps_places first opened past _ = true

-- the rule holds of each entry, after those before it
abbrev pub Each : (List Entry → Entry → Type 0) → List Entry → Type 0
Each Rule [] = ⊤
Each Rule (e ∷ past) = Rule past e × Each Rule past

-- the link of the run with this place is back, and this holds of it
abbrev pub IsBack : FinMap nat_cmp LinkView → ℕ → (LinkView → Type 0) → Type 0
IsBack back place Fact = (link : LinkView) × (get back place ≡ Some link) × Fact link

-- ---- Links that didn't come up

-- `attach` takes no further pipe: the socket is closed, a pair has one, or too many wait or were numbered
abbrev pub refuses : Setting → List Entry → Bool
refuses z past =
    is_closed past || is_pair z.role && not (is_nil (up past)) || nat_le 4096 (length (up past) + length (untaken past)) || nat_le (2 ^ 31 - 1) (ups past)

-- when some turn began, the link was in progress and `attach` would have been refused
abbrev pub WasRefused : Setting → List (Turn Entry) → ℕ → Type 0
WasRefused z record_ place =
    (early late : List (Turn Entry)) × (record_ ≡ early ++ late) × IsTrue (has (greeting (past_of early)) place) × IsTrue (refuses z (past_of early))

-- ten seconds have passed since the link was met
abbrev pub IsLate : List Entry → ℕ → Type 0
IsLate past place = (t : ℕ) × (met_at past place ≡ Some t) × (t + 10000 ≤ now past)

module _ (ways : Ways) (z : Setting) (record_ : List (Turn Entry)) where
  -- why a link was missed, by its state when it was given back: its greeting is wrong; it has ended, it has failed or
  -- it took too long, and it isn't complete; `attach` was refused; out of memory has no condition
  abbrev pub MissedFor : List Entry → ℕ → Miss → LinkView → ways.Way → Type 0
  MissedFor past place misses.Bad link way = IsSpoilt ways way link
  MissedFor past place misses.Ended link way = (link.ended ≡ true) × ¬ IsComplete ways way link × WroteOrStalled ways way link
  MissedFor past place misses.Failed link way = (1 ≤ link.faults) × ¬ IsComplete ways way link
  MissedFor past place misses.Late link way = IsLate past place × ¬ IsComplete ways way link × WroteOrStalled ways way link
  MissedFor past place misses.Refused link way = WasRefused z record_ place
  MissedFor past place misses.NoMemory link way = ⊤

  -- each link that was missed has its cause
  abbrev pub HasCause : FinMap nat_cmp LinkView → List Entry → Entry → Type 0
  HasCause back past (NoUp place miss) = IsBack back place (λ link. BeganSo ways link (λ way. MissedFor past place miss link way))
  HasCause back past _ = ⊤

  -- a link that was still in progress at the end isn't complete
  abbrev pub IsUndone : LinkView → Type 0
  IsUndone link = BeganSo ways link (λ way. ¬ IsComplete ways way link × WroteOrStalled ways way link)

-- ---- Links that came up

-- the frames that were pulled are a prefix of what came, and what was written is a prefix of what was put
pub record Carries (framing : Framing) (z : Setting) (past : List Entry) (p : ℕ) (link : LinkView) : Type 0 where
  pub came : Told link.came (λ came. IsPrefix (stream_text framing (peer_number z.role) (frames past p)) came)
  pub written : Told link.written (λ written. IsPrefix written (stream_text framing (role_number z.role) (outs past p)))

-- the last frame of the pipe is malformed
abbrev pub went_down_for_frame : Setting → List Entry → ℕ → Bool
went_down_for_frame z past p = last_is_malformed z past p

-- all that the link shows was pulled
abbrev pub IsDrained : Framing → Setting → ℕ → List Entry → ℕ → LinkView → Type 0
IsDrained framing z max past p link = Told link.came (λ came. frames past p ≡ stream_shows framing (peer_number z.role) max came)

-- why a pipe over TCP or IPC went down: its link has ended, and all that it shows was pulled; its link has failed; its
-- last frame is malformed, or the link shows what is not allowed (a message above the limit, and over IPC another byte
-- than 01 before a size), and all before it was pulled; never for a refusal; the close and out of memory have no
-- condition
abbrev pub WentDownFor : Framing → Setting → ℕ → List Entry → ℕ → Why → LinkView → Type 0
WentDownFor framing z max past p whys.Ended link = (link.ended ≡ true) × IsDrained framing z max past p link
WentDownFor framing z max past p whys.Failed link = 1 ≤ link.faults
WentDownFor framing z max past p whys.Malformed link =
    IsTrue (went_down_for_frame z past p) ⊎ (Told link.came (IsStreamBad framing (peer_number z.role) max) × IsDrained framing z max past p link)
WentDownFor framing z max past p whys.Refusal link = ⊥
WentDownFor framing z max past p whys.Closed link = ⊤
WentDownFor framing z max past p whys.NoMemory link = ⊤

-- for a pipe over this link: over TCP and IPC its texts, and why it went down
pub record IsLinkOf (z : Setting) (max : ℕ) (past : List Entry) (p : ℕ) (link : LinkView) : Type 0 where
  pub texts : (framing : Framing) → link.scheme ≡ scheme_under framing → Carries framing z past p link
  pub went_down : (framing : Framing) → link.scheme ≡ scheme_under framing → (why : Why) → down_for past p ≡ Some why → WentDownFor framing z max past p why link

-- a told link of TCP or IPC that holds all that was put on its pipe
abbrev pub HoldsAll : Setting → List Entry → ℕ → LinkView → Type 0
HoldsAll z past p link = (framing : Framing) × (link.scheme ≡ scheme_under framing) × (link.written ≡ Some (stream_text framing (role_number z.role) (outs past p)))

-- ---- Limits, memory, other links

-- the receive limit of a pipe that has no link of a net: none
abbrev pub no_limit : ℕ
no_limit = 2 ^ 32 - 1

-- a pipe that has no link of a net comes up without a limit
abbrev pub keeps_limits : List Entry → Entry → Bool
keeps_limits past (Up p place limit name) = not (place == lane_place) || (limit == no_limit)
keeps_limits past _ = true

-- the pipe's receive limit is one of these, and this holds of it
abbrev pub IsLimited : List ℕ → List Entry → ℕ → (ℕ → Type 0) → Type 0
IsLimited limits past p Fact = (max : ℕ) × (limit_of past p ≡ Some max) × IsAmong max limits × Fact max

-- a link was missed when out of memory
abbrev pub has_dry_miss : List Entry → Bool
has_dry_miss [] = false
has_dry_miss (NoUp place misses.NoMemory ∷ past) = true
has_dry_miss (_ ∷ past) = has_dry_miss past

-- links that the net handed out before, or afterwards, stay as they are
abbrev pub KeepsOthers : NetView → NetView → Type 0
KeepsOthers old new = (place : ℕ) → (place < old.opened) ⊎ (new.opened ≤ place) → get new.back place ≡ get old.back place

-- each told link of TCP or IPC whose pipe was up when the socket closed holds its whole text
abbrev pub AreWhole : Setting → NetView → List Entry → Type 0
AreWhole z net past =
    (p place : ℕ) (link : LinkView) → down_for past p ≡ Some whys.Closed → place_of past p ≡ Some place → place ≢ lane_place → place < net.opened → get net.back place ≡ Some link
    → (framing : Framing) → link.scheme ≡ scheme_under framing → Told link.written (λ written. written ≡ stream_text framing (role_number z.role) (outs past p))

-- ---- Deadlines

-- the operation was in a due list
abbrev pub was_due : List Entry → OpName → Bool
was_due [] op = false
was_due (Tick t due ∷ past) op = list_any (same_op op) due || was_due past op
was_due (_ ∷ past) op = was_due past op

-- an operation that timed out was due
abbrev pub times_out_rightly : List Entry → Entry → Bool
times_out_rightly past (End op (Gone TimedOut by)) = was_due past op
times_out_rightly past _ = true

-- ---- All of it

-- what holds of the links that the net handed out in the run: those from `first` on, below `opened`; `limits` are the
-- receive limits of its ends
pub record Records (ways : Ways) (z : Setting) (limits : List ℕ) (first opened : ℕ) (back : FinMap nat_cmp LinkView) (record_ : List (Turn Entry)) : Type 0 where
  -- each is met once, and comes up or is missed at most once; it was given back, shut
  pub places : IsTrue (each (keeps_places first opened) (past_of record_))
  pub few : first < opened → opened ≤ lane_place
  pub met : (place : ℕ) → first ≤ place → place < opened → is_some (met_at (past_of record_) place) ≡ true
  pub given_back : (place : ℕ) → first ≤ place → place < opened → IsBack back place (λ link. (link.place ≡ place) × (link.is_open ≡ false))
  -- a link that was missed has its cause, and one that was left isn't complete
  pub missed : Each (HasCause ways z record_ back) (past_of record_)
  pub left_ : (place : ℕ) → has (greeting (past_of record_)) place ≡ true → IsBack back place (IsUndone ways z record_)
  -- a link that came up opened well, and carried its pipe's messages
  pub came_up : (p place : ℕ) → place_of (past_of record_) p ≡ Some place → place ≢ lane_place → place < opened → IsBack back place (λ link. BeganSo ways link (λ way. HasOpened ways way link) × IsLimited limits (past_of record_) p (λ max. IsLinkOf z max (past_of record_) p link))
  pub lanes : IsTrue (each keeps_limits (past_of record_))
  pub due : IsTrue (each times_out_rightly (past_of record_))
