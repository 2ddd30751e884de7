-- What the rounds of a run were spent on, by its record and the counts of the outside.
use Rattle.std.specs.Prelude.{◌≡◌, ◌≢◌, ◌⊎◌, ◌≤◌, ◌<◌, ◌+◌, ◌*◌, ◌/◌, ◌-◌, ◌^◌, ◌==◌, ℕ, zero, suc, nat_le, Bool, true, false, ◌&&◌, ⊤, if◌then◌else◌, List, [], ◌∷◌, ◌++◌, length, filter, Option, Some, None}
use Rattle.std.specs.List.{list_any}
use Rattle.std.specs.FinMap.{FinMap, get}
use Rattle.std.specs.Ordering.{nat_cmp}
use Rattle.turn_lock.specs.declared.turn.Turn.{Turn}
use Rattle.sp_base.specs.Views.{LinkView, NetView, PaceView}
use Rattle.sp_base.specs.Addresses.{is_linked}
use Rattle.sp_history.specs.declared.entry.Why.TheVariants as whys
use Rattle.sp_history.specs.declared.entry.Entry.{Entry}
use Rattle.sp_history.specs.declared.entry.Entry.TheVariants.{Down, Out, Stall, Tick}
use Rattle.sp_history.specs.declared.setting.Setting.{Setting}
use Rattle.sp_history.specs.Lists.{has}
use Rattle.sp_history.specs.Kept.{wanted}
use Rattle.sp_history.specs.Past.{past_of, frames}
use Rattle.sp_history.specs.Swept.{is_quiet, frame_count}
use Rattle.cat_text.specs.declared.plan.End.{End}
use Rattle.cat_text.specs.declared.plan.End.TheVariants as ends
use Rattle.sp_history.specs.Found.{ticks, before_last_tick}
use Rattle.cat_play.specs.Plans.{Play}
use Rattle.cat_play.specs.Scripts.{over}
use Rattle.sp_ends.specs.LinkRecords.{greeting, lane_place, place_of, IsBack, HoldsAll}
use Rattle.sp_ends.specs.LinkCounts.{CanRise, ticks_where, IsAsked, IsRead, has_room}

-- ---- Listeners and dialers

-- it listens over links of a net
abbrev pub is_linked_listen : End → Bool
is_linked_listen (ends.Listen addr) = is_linked addr
is_linked_listen (ends.Dial addr) = false

-- it dials over links of a net
abbrev pub is_linked_dial : End → Bool
is_linked_dial (ends.Listen addr) = false
is_linked_dial (ends.Dial addr) = is_linked addr

abbrev pub listens_of : List End → ℕ
listens_of es = length (filter is_linked_listen es)

abbrev pub dials_of : List End → ℕ
dials_of es = length (filter is_linked_dial es)

-- the number of ticks, without the last, at which there was room
abbrev pub roomy_ticks : List Entry → ℕ
roomy_ticks past = ticks_where has_room (before_last_tick past)

-- the first list is the second with some elements left out
abbrev pub IsThinned : List ℕ → List ℕ → Type 0
IsThinned [] ys = ⊤
IsThinned (x ∷ xs) [] = ⊥
IsThinned (x ∷ xs) (y ∷ ys) = (x ≡ y) × IsThinned xs ys ⊎ IsThinned (x ∷ xs) ys

-- each is at least 100 above the one before it
abbrev pub AreApart : List ℕ → Type 0
AreApart [] = ⊤
AreApart (a ∷ []) = ⊤
AreApart (a ∷ b ∷ rest) = (a + 100 ≤ b) × AreApart (b ∷ rest)

-- the longest list of ticks except the last, in order, each at least 100 above the one before it
pub record AreTries (past : List Entry) (tries : List ℕ) : Type 0 where
  pub thinned : IsThinned tries (ticks (before_last_tick past))
  pub apart : AreApart tries
  pub longest : (others : List ℕ) → IsThinned others (ticks (before_last_tick past)) → AreApart others → length others ≤ length tries

-- how often a dialer tried at least: as long as no link was opened, at each of the tries; otherwise once, where there
-- are two ticks
abbrev pub TriedAtLeast : Bool → List Entry → ℕ → Type 0
TriedAtLeast true past n = (tries : List ℕ) × AreTries past tries × (n ≡ length tries)
TriedAtLeast false past n = n ≡ (if nat_le 2 (length (ticks past)) then 1 else 0)

-- the net was asked: each listener at each tick at which there was room, and each dialer at least as often as it must
-- be
pub record WereAsked (es : List End) (past : List Entry) (old new : NetView) : Type 0 where
  pub idles : old.idles ≤ new.idles
  pub faults : old.faults ≤ new.faults
  pub opened : old.opened ≤ new.opened
  pub rose : CanRise new.idles → CanRise new.faults → (tried : ℕ) → TriedAtLeast (new.opened == old.opened) past tried
      → old.idles + old.faults + old.opened + listens_of es * roomy_ticks past + dials_of es * tried ≤ new.idles + new.faults + new.opened

-- ---- After the play's end

-- the ticks at which the play is over
abbrev pub late_ticks : Setting → Play → List Entry → ℕ
late_ticks z play past = ticks_where (over z play) past

-- the turn has a Stall
abbrev pub is_stall : Entry → Bool
is_stall (Stall p) = true
is_stall _ = false

abbrev pub stalled_turns : List (Turn Entry) → ℕ
stalled_turns record_ = length (filter (λ (t : Turn Entry). list_any is_stall t.entries) record_)

-- how often the link took nothing
abbrev pub stalls_of : Option LinkView → ℕ
stalls_of None = 0
stalls_of (Some link) = link.stalls

-- the same for the links from one place on
abbrev pub stalls_from : FinMap nat_cmp LinkView → ℕ → ℕ → ℕ
stalls_from back first zero = 0
stalls_from back first (suc n) = stalls_from back first n + stalls_of (get back (first + n))

abbrev pub down_total : List Entry → ℕ
down_total [] = 0
down_total (Down p why ∷ past) = down_total past + 1
down_total (_ ∷ past) = down_total past

abbrev pub out_total : List Entry → ℕ
out_total [] = 0
out_total (Out p b ∷ past) = out_total past + 1
out_total (_ ∷ past) = out_total past

-- what the rounds after the play's end may be spent on: a turn in which a pipe could not write all, a link that took
-- nothing, a pipe that goes down (two), 64 messages that went out
abbrev pub excuses : List (Turn Entry) → FinMap nat_cmp LinkView → ℕ → ℕ → ℕ
excuses record_ back first opened =
    stalled_turns record_ + stalls_from back first (opened - first) + 2 * down_total (past_of record_) + out_total (past_of record_) / 64

-- when the socket closed, a pipe wasn't wanted whose link isn't a told TCP link that holds all
pub record IsStuck (z : Setting) (back : FinMap nat_cmp LinkView) (record_ : List (Turn Entry)) : Type 0 where
  pub p : ℕ
  pub later : List Entry
  pub earlier : List Entry
  pub stands : past_of record_ ≡ later ++ Down p whys.Closed ∷ earlier
  pub unwanted : wanted z earlier p ≡ false
  pub not_whole : (place : ℕ) → place_of (past_of record_) p ≡ Some place → IsBack back place (HoldsAll z (past_of record_) p) → ⊥

-- the rounds after the play's end, except one, have their excuse
abbrev pub IsPrompt : Setting → Play → FinMap nat_cmp LinkView → ℕ → ℕ → List (Turn Entry) → Type 0
IsPrompt z play back first opened record_ = late_ticks z play (past_of record_) ≤ excuses record_ back first opened + 1

-- the same, and where the run was called off (true) a stuck pipe is an excuse for all
abbrev pub EndsSoon : Bool → Setting → Play → FinMap nat_cmp LinkView → ℕ → ℕ → List (Turn Entry) → Type 0
EndsSoon false z play back first opened record_ = IsPrompt z play back first opened record_
EndsSoon true z play back first opened record_ = IsPrompt z play back first opened record_ ⊎ IsStuck z back record_

-- where each link's count of stalls can still rise
abbrev pub EndsInTime : Bool → Setting → Play → List (Turn Entry) → NetView → NetView → Type 0
EndsInTime called_off z play record_ net net' =
    ((place : ℕ) → net.opened ≤ place → place < net'.opened → CanRise (stalls_of (get net'.back place))) → EndsSoon called_off z play net'.back net.opened net'.opened record_

-- ---- Before it, and in all

pub record Spends (es : List End) (record_ : List (Turn Entry)) (net net' : NetView) (pace pace' : PaceView) : Type 0 where
  pub turns : pace.left ≡ pace'.left + length (ticks (past_of record_))
  pub greetings : (place : ℕ) → net.opened ≤ place → place < net'.opened → IsBack net'.back place (IsAsked (past_of record_) place)
  pub pipes : (p place : ℕ) → place_of (past_of record_) p ≡ Some place → place ≢ lane_place → place < net'.opened → IsBack net'.back place (IsRead record_ p)
  pub ends : WereAsked es (past_of record_) net net'
