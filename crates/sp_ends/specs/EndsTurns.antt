-- What a turn of the ends does, and its parts.
use Rattle.std.specs.Prelude.{◌≡◌, ◌≤◌, ◌<◌, ◌+◌, ◌*◌, ◌^◌, ◌⊎◌, ℕ, ⊤, Bool, true, false, List, [], ◌∷◌, length, map, take, drop, Some, ◌-◌, min, zero, suc, if◌then◌else◌, Result, Ok, IfOk}
use Rattle.std.specs.List.{AllByRecursion}
use Rattle.turn_lock.specs.declared.turn.Turn.{Turn}
use Rattle.sp_base.specs.Views.{LinkView, NetView}
use Rattle.sp_base.specs.declared.addr.Scheme.{Scheme}
use Rattle.sp_base.specs.declared.addr.Scheme.TheVariants as schemes
use Rattle.sp_history.specs.declared.entry.Entry.{Entry}
use Rattle.sp_history.specs.declared.setting.Setting.{Setting}
use Rattle.sp_history.specs.Lists.{has}
use Rattle.sp_history.specs.Past.{past_of, untaken, now}
use Rattle.sp_ends.specs.LinkCounts.{CanRise, has_room}
use Rattle.sp_history.specs.Found.{ticks, before_last_tick}
use Rattle.sp_ends.specs.declared.newcomer.Newcomer.{Newcomer}
use Rattle.sp_ends.specs.declared.dialer.Dialer.{Dialer}
use Rattle.sp_links.specs.declared.way.Way.{Way}
use Rattle.sp_links.specs.Openings.{scheme_for, CanBegin}
use Rattle.sp_links.specs.Origins.{Origins, IsAmong, IsKnown}
use Rattle.sp_base.specs.Steps.{IsHandedOut}
use Rattle.sp_base.specs.declared.error.NoMemory.{NoMemory}
use Rattle.sp_socket.specs.Singles.{SingleView, IsSound, IsNow}
use Rattle.sp_base.specs.declared.addr.Addr.{Addr}
use Rattle.sp_ends.specs.Freeing.{Frees, AreSameDialers}
use Rattle.sp_ends.specs.Listening.{room_for, own_of, dialed_of, one_open, open_of, asks_one, asks_to}
use Rattle.sp_ends.specs.DialMoments.{is_due}
use Rattle.sp_ends.specs.EndViews.{LinkEndsView, Beginning}
use Rattle.sp_ends.specs.RunLinks.{AreOfRun, LinksStand, NetStands, SameCounts, sum_of, EndsStand}
use Rattle.sp_ends.specs.SocketSteps.{Quietly, NoLane, IsDry}
use Rattle.sp_ends.specs.DialerSteps.{IsSameDialer, IsFree, IsUnderWay}
use Rattle.sp_ends.specs.NewcomerSteps.{IsYoung, HasWaitedOn}

-- since the last tick nothing was greeted, accepted or dialed yet
pub record EndsTicked {L : Type 0} (seen : L → LinkView) (z : Setting) (start : Beginning) (h : List (Turn Entry)) (net : NetView) (ends : LinkEndsView L) : Type 0 where
  pub role : ends.role ≡ z.role
  pub links : LinksStand seen z start h net ends.newcomers (length ends.newcomers)
  pub asked : NetStands start (before_last_tick (past_of h)) (before_last_tick (past_of h)) net ends.listeners ends.dialers
  pub of_run : AreOfRun start.origins ends
  pub ticked : 0 < length (ticks (past_of h))
  -- where there was room at the tick, no more are to be greeted
  pub room : has_room (before_last_tick (past_of h)) ≡ true → length ends.newcomers ≤ 192

-- each pipe that was down and not taken is taken
abbrev pub AllTaken : SingleView → SingleView → Type 0
AllTaken old new = (p : ℕ) → has (untaken (past_of old.seen)) p ≡ true → has (untaken (past_of new.seen)) p ≡ false

abbrev pub addrs_of : List Dialer → List Addr
addrs_of ds = map (λ (d : Dialer). d.addr) ds

-- the addresses that are dialed, each with its receive limit
abbrev pub targets_of : List Dialer → List (Addr × ℕ)
targets_of ds = map (λ (d : Dialer). (d.addr, d.max)) ds

-- the same ends, except for their links and what dialers know of theirs
pub record SameEnds {L : Type 0} (old new : LinkEndsView L) : Type 0 where
  pub role : new.role ≡ old.role
  pub dice : new.dice ≡ old.dice
  pub listeners : new.listeners ≡ old.listeners
  pub dials : targets_of new.dialers ≡ targets_of old.dialers

-- within a turn of the ends, where k links are still to be greeted
pub record InTurn {L : Type 0} (seen : L → LinkView) (start : Beginning) (ends : LinkEndsView L) (net : NetView) (s : SingleView) (now : ℕ) (k : ℕ) : Type 0 where
  pub role : ends.role ≡ s.setting.role
  pub links : LinksStand seen s.setting start s.seen net ends.newcomers k
  pub of_run : AreOfRun start.origins ends
  pub now_is : IsNow now s
  pub ticked : 0 < length (ticks (past_of s.seen))
  pub sound : IsSound s

-- the same, with this link before the newcomers
pub record InTurnWith {L : Type 0} (seen : L → LinkView) (start : Beginning) (n : Newcomer L) (ends : LinkEndsView L) (net : NetView) (s : SingleView) (now : ℕ) (k : ℕ) : Type 0 where
  pub role : ends.role ≡ s.setting.role
  pub links : LinksStand seen s.setting start s.seen net (n ∷ ends.newcomers) (suc k)
  pub of_run : AreOfRun start.origins ends
  pub now_is : IsNow now s
  pub ticked : 0 < length (ticks (past_of s.seen))
  pub sound : IsSound s

-- a part of the turn that asks the net for no link
pub record Serves {L : Type 0} (old new : LinkEndsView L) (net net' : NetView) (s s' : SingleView) : Type 0 where
  pub ends : SameEnds old new
  pub dialers : AreSameDialers old.dialers new.dialers
  pub counts : SameCounts net net'
  pub quietly : Quietly s s'
  pub lanes : NoLane s s'

-- the same ends, except for the dialers that have lost their link
pub record SameButPlaces {L : Type 0} (old new : LinkEndsView L) : Type 0 where
  pub ends : new ≡ record old { dialers = new.dialers }
  pub dialers : AreSameDialers old.dialers new.dialers

-- ---- Asking the net

-- the net was asked once for a link
pub record AsksNet (old new : NetView) : Type 0 where
  pub listens : new.listens ≡ old.listens
  pub opened : old.opened ≤ new.opened
  pub idles : old.idles ≤ new.idles
  pub faults : old.faults ≤ new.faults
  pub rose : CanRise new.idles → CanRise new.faults → sum_of old + 1 ≤ sum_of new

-- the dialer has tried once more; where no link was handed out it is free, or a connection of it is under way
pub record HasDialed (now : ℕ) (same : Type 0) (old new : Dialer) : Type 0 where
  pub addr : new.addr ≡ old.addr
  pub max : new.max ≡ old.max
  pub tries : new.tries ≡ min (old.tries + 1) (2 ^ 64 - 1)
  pub next : same → IsFree now new ⊎ IsUnderWay now new

-- the dialer at this place has tried once more, and the others are the same, except for the links that they have lost
abbrev pub DialsOne : ℕ → ℕ → Type 0 → List Dialer → List Dialer → Type 0
DialsOne i now same [] [] = ⊤
DialsOne zero now same (d ∷ ds) (e ∷ es) = HasDialed now same d e × AreSameDialers ds es
DialsOne (suc i) now same (d ∷ ds) (e ∷ es) = IsSameDialer d e × DialsOne i now same ds es
DialsOne _ now same _ _ = ⊥

abbrev pub DialsAt : ℕ → ℕ → NetView → NetView → List Dialer → List Dialer → Type 0
DialsAt i now old new ds es = DialsOne i now (new.opened ≡ old.opened) ds es

-- the number of dialers that are due
abbrev pub dues_of : ℕ → List Dialer → ℕ
dues_of now [] = 0
dues_of now (d ∷ ds) = if is_due now d then dues_of now ds + 1 else dues_of now ds

-- each listener with fewer than 256 links in progress was asked, whatever the others have, and each dialer that was due was
-- dialed
abbrev pub AsksAll : {L : Type 0} → ℕ → LinkEndsView L → NetView → NetView → Type 0
AsksAll now ends old new =
    CanRise new.idles → CanRise new.faults → sum_of old + open_of (length ends.listeners) ends.newcomers + dues_of now ends.dialers ≤ sum_of new

-- the links that a listener brought made no more than 256 of its own in progress, and each dial made at most one more
pub record FewInProgress {L : Type 0} (old new : LinkEndsView L) : Type 0 where
  pub listeners : (i n : ℕ) → 256 ≤ n → own_of i old.newcomers ≤ n → own_of i new.newcomers ≤ n
  pub dialers : dialed_of new.newcomers ≤ dialed_of old.newcomers + length old.dialers

-- How often the net was asked for links, where each link counts once, and each result that there is none, and each
-- fault, as often as a listener is asked in a turn
abbrev pub asks_of : NetView → ℕ
asks_of net = 16 * (net.idles + net.faults) + net.opened

-- each listener was asked until it had no link, failed or had brought 16, or had 256 in progress; and each dialer that was due
-- was dialed
abbrev pub AsksEach : {L : Type 0} → ℕ → LinkEndsView L → NetView → NetView → Type 0
AsksEach now ends old new =
    CanRise new.idles → CanRise new.faults → asks_of old + asks_to (length ends.listeners) (new.opened - old.opened) ends.newcomers + dues_of now ends.dialers ≤ asks_of new

-- each dialer that was due was dialed
abbrev pub AsksDue : ℕ → List Dialer → NetView → NetView → Type 0
AsksDue now ds old new = CanRise new.idles → CanRise new.faults → sum_of old + dues_of now ds ≤ sum_of new

-- the same for all, except the first k
abbrev pub AreYoung : {L : Type 0} → ℕ → ℕ → List (Newcomer L) → Type 0
AreYoung now k ns = AllByRecursion (IsYoung now) (drop k ns)

-- ---- Links that waited

abbrev pub IsOneOf : {L : Type 0} → List (Newcomer L) → Newcomer L → Type 0
IsOneOf [] n = ⊥
IsOneOf (m ∷ ms) n = (n ≡ m) ⊎ IsOneOf ms n

-- it is one of those that were in progress at first, or was handed out since
abbrev pub IsFirstOrNew : {L : Type 0} → (L → LinkView) → List (Newcomer L) → ℕ → Newcomer L → Type 0
IsFirstOrNew seen first opened n = IsOneOf first n ⊎ (opened ≤ (seen n.opening.link).place)

-- since it was one of the first, or was handed out, it once brought nothing or took nothing
abbrev pub HasWaitedSince : {L : Type 0} → (L → LinkView) → List (Newcomer L) → ℕ → Newcomer L → Type 0
HasWaitedSince {L} seen first opened n =
    ((m : Newcomer L) × IsOneOf first m × HasWaitedOn seen m n) ⊎ ((opened ≤ (seen n.opening.link).place) × ((1 ≤ (seen n.opening.link).idles) ⊎ (1 ≤ (seen n.opening.link).stalls)))

-- the first k are still to be greeted; each other one has waited
pub record AreWaitingBehind {L : Type 0} (seen : L → LinkView) (first : List (Newcomer L)) (opened k : ℕ) (ns : List (Newcomer L)) : Type 0 where
  pub within : k ≤ length ns
  pub ungreeted : AllByRecursion (IsFirstOrNew seen first opened) (take k ns)
  pub rest : AllByRecursion (HasWaitedSince seen first opened) (drop k ns)

-- the listeners from one place of the list to the other were asked, and brought at most `most` links
pub record HasAsked {L : Type 0} (seen : L → LinkView) (first last most : ℕ) (old new : LinkEndsView L) (net net' : NetView) (s s' : SingleView) (now : ℕ) (is_dry : Bool) : Type 0 where
  pub in_turn : (start : Beginning) → InTurn seen start old net s now 0 → InTurn seen start new net' s' now 0
  pub ends : SameEnds old new
  pub dialers : AreSameDialers old.dialers new.dialers
  pub frees : Frees now net net' old.dialers new.dialers
  pub quietly : Quietly s s'
  pub lanes : NoLane s s'
  pub dry : IsDry is_dry s'
  pub few : length new.newcomers + net.opened ≤ length old.newcomers + net'.opened
  -- the others have as many in progress; none of these is asked while it has 256
  pub others : (i : ℕ) → (i < first) ⊎ (last ≤ i) → own_of i new.newcomers ≡ own_of i old.newcomers
  pub own : (i : ℕ) → own_of i new.newcomers + net.opened ≤ own_of i old.newcomers + net'.opened
  pub dialed : dialed_of new.newcomers ≡ dialed_of old.newcomers
  pub held : (i n : ℕ) → 256 ≤ n → own_of i old.newcomers ≤ n → own_of i new.newcomers ≤ n
  pub listens : net'.listens ≡ net.listens
  pub opened : net.opened ≤ net'.opened
  pub handed : net'.opened ≤ net.opened + most
  pub young : AreYoung now 0 old.newcomers → AreYoung now 0 new.newcomers
  pub waited : (first : List (Newcomer L)) (opened : ℕ) → opened ≤ net.opened → AreWaitingBehind seen first opened 0 old.newcomers → AreWaitingBehind seen first opened 0 new.newcomers
  pub idles : net.idles ≤ net'.idles
  pub faults : net.faults ≤ net'.faults

-- the listener at this place was asked, unless it has 256 in progress: until it had no link, failed, brought 16 or had 256
pub record HasAskedOne {L : Type 0} (seen : L → LinkView) (i : ℕ) (old new : LinkEndsView L) (net net' : NetView) (s s' : SingleView) (now : ℕ) (is_dry : Bool) : Type 0 where
  pub asked : HasAsked seen i (i + 1) 16 old new net net' s s' now is_dry
  pub rose : CanRise net'.idles → CanRise net'.faults → sum_of net + one_open i old.newcomers ≤ sum_of net'
  pub filled : CanRise net'.idles → CanRise net'.faults → asks_of net + asks_one i (net'.opened - net.opened) old.newcomers ≤ asks_of net'

-- the first i listeners were asked like this
pub record HasAskedTo {L : Type 0} (seen : L → LinkView) (i : ℕ) (old new : LinkEndsView L) (net net' : NetView) (s s' : SingleView) (now : ℕ) (is_dry : Bool) : Type 0 where
  pub asked : HasAsked seen 0 i (16 * i) old new net net' s s' now is_dry
  pub rose : CanRise net'.idles → CanRise net'.faults → sum_of net + open_of i old.newcomers ≤ sum_of net'
  pub filled : CanRise net'.idles → CanRise net'.faults → asks_of net + asks_to i (net'.opened - net.opened) old.newcomers ≤ asks_of net'

-- the same way, where there is room for one more link
abbrev pub FitsIn : {L : Type 0} → Result Way NoMemory → Result Way NoMemory → LinkEndsView L → Type 0
FitsIn way result ends = IfOk result (λ w. (way ≡ Ok w) × (length ends.newcomers < room_for (length ends.listeners)))

-- ---- A link that is new

-- a link that was handed out begins in a known way, with the receive limit of an end; `way` is that way, unless out of
-- memory
pub record Arrives (o : Origins) (link : LinkView) (way : Result Way NoMemory) (max : ℕ) (old new : NetView) : Type 0 where
  pub begins : Way
  pub is : IfOk way (λ w. w ≡ begins)
  pub known : IsKnown o begins
  pub can : CanBegin begins
  pub limit : IsAmong max o.limits
  pub handed : IsHandedOut link (Some (scheme_for begins)) old new

-- the number of WebSocket links that were dialed, once one of this scheme was
abbrev pub asked_after : Scheme → ℕ → ℕ
asked_after schemes.Tcp asked = asked
asked_after schemes.Ws asked = min (asked + 1) (2 ^ 64 - 1)
asked_after schemes.Inproc asked = asked
asked_after schemes.Ipc asked = asked

-- ---- Before and after a part of the turn

abbrev pub HaveTicked : {L : Type 0} → (L → LinkView) → SingleView → NetView → LinkEndsView L → Type 0
HaveTicked seen s net ends = (start : Beginning) × EndsTicked seen s.setting start s.seen net ends

-- ends that have ticked are again as between two rounds
abbrev pub StandAgain : {L : Type 0} → (L → LinkView) → SingleView → SingleView → NetView → NetView → LinkEndsView L → LinkEndsView L → Type 0
StandAgain seen s s' net net' old new =
    (start : Beginning) → EndsTicked seen s.setting start s.seen net old → EndsStand seen s'.setting start s'.seen net' new

abbrev pub IsInTurn : {L : Type 0} → (L → LinkView) → LinkEndsView L → NetView → SingleView → ℕ → ℕ → Type 0
IsInTurn seen ends net s now k = (start : Beginning) × InTurn seen start ends net s now k

-- within the turn, with k links that are still to be greeted before it and k' after it
abbrev pub TurnGoesOn : {L : Type 0} → (L → LinkView) → ℕ → LinkEndsView L → LinkEndsView L → NetView → NetView → SingleView → SingleView → ℕ → ℕ → Type 0
TurnGoesOn seen now old new net net' s s' k k' =
    (start : Beginning) → InTurn seen start old net s now k → InTurn seen start new net' s' now k'

-- the same, where all are still to be greeted
abbrev pub UngreetedGoOn : {L : Type 0} → (L → LinkView) → ℕ → LinkEndsView L → LinkEndsView L → NetView → NetView → SingleView → SingleView → Type 0
UngreetedGoOn seen now old new net net' s s' =
    TurnGoesOn seen now old new net net' s s' (length old.newcomers) (length new.newcomers)

-- no listener was asked since the last tick, and no address dialed
abbrev pub AreToBeAsked : {L : Type 0} → (L → LinkView) → LinkEndsView L → NetView → SingleView → ℕ → Type 0
AreToBeAsked seen ends net s now =
    (start : Beginning) × InTurn seen start ends net s now (length ends.newcomers) × NetStands start (before_last_tick (past_of s.seen)) (before_last_tick (past_of s.seen)) net ends.listeners ends.dialers

-- they were asked and dialed, and the ends are as between two rounds
abbrev pub AskedStand : {L : Type 0} → (L → LinkView) → ℕ → LinkEndsView L → LinkEndsView L → NetView → NetView → SingleView → SingleView → Type 0
AskedStand seen now old new net net' s s' =
    (start : Beginning) → InTurn seen start old net s now (length old.newcomers) → NetStands start (before_last_tick (past_of s.seen)) (before_last_tick (past_of s.seen)) net old.listeners old.dialers → EndsStand seen s'.setting start s'.seen net' new

-- the listeners were asked, and no address was dialed since the last tick
abbrev pub AreToBeDialed : {L : Type 0} → (L → LinkView) → LinkEndsView L → NetView → SingleView → ℕ → Type 0
AreToBeDialed seen ends net s now =
    (start : Beginning) × InTurn seen start ends net s now 0 × NetStands start (past_of s.seen) (before_last_tick (past_of s.seen)) net ends.listeners ends.dialers

-- each that was due is dialed
abbrev pub DialedStand : {L : Type 0} → (L → LinkView) → ℕ → LinkEndsView L → LinkEndsView L → NetView → NetView → SingleView → SingleView → Type 0
DialedStand seen now old new net net' s s' =
    (start : Beginning) → InTurn seen start old net s now 0 → NetStands start (past_of s.seen) (before_last_tick (past_of s.seen)) net old.listeners old.dialers → NetStands start (past_of s'.seen) (past_of s'.seen) net' new.listeners new.dialers

abbrev pub CountsRise : NetView → NetView → Type 0
CountsRise old new = (old.idles ≤ new.idles) × (old.faults ≤ new.faults) × (old.opened ≤ new.opened)

-- whichever links were in progress at first, and from whichever place up to `most` on links are new: all waited before,
-- and all have waited now
abbrev pub WaitOn : {L : Type 0} → (L → LinkView) → ℕ → List (Newcomer L) → List (Newcomer L) → Type 0
WaitOn {L} seen most old new =
    (first : List (Newcomer L)) (opened : ℕ) → opened ≤ most → AreWaitingBehind seen first opened 0 old → AreWaitingBehind seen first opened 0 new

-- the same, where this one was the first of them
abbrev pub WaitWith : {L : Type 0} → (L → LinkView) → Newcomer L → List (Newcomer L) → List (Newcomer L) → Type 0
WaitWith {L} seen n old new =
    (first : List (Newcomer L)) (opened k : ℕ) → IsFirstOrNew seen first opened n → AreWaitingBehind seen first opened k old → AreWaitingBehind seen first opened k new

-- the first of the newcomers is greeted
abbrev pub GreetsInTurn : {L : Type 0} → (L → LinkView) → ℕ → Newcomer L → LinkEndsView L → LinkEndsView L → NetView → NetView → SingleView → SingleView → Type 0
GreetsInTurn seen now n old new net net' s s' =
    (start : Beginning) (k : ℕ) → InTurnWith seen start n old net s now k → InTurn seen start new net' s' now k

-- the net handed this link out within the turn
abbrev pub HasArrived : {L : Type 0} → (L → LinkView) → ℕ → L → Result Way NoMemory → ℕ → LinkEndsView L → NetView → SingleView → Type 0
HasArrived seen now link way max ends net s =
    (start : Beginning) × (before : NetView) × InTurn seen start ends before s now 0 × Arrives start.origins (seen link) way max before net

-- it is met, and greeted
abbrev pub MeetsInTurn : {L : Type 0} → (L → LinkView) → ℕ → L → Result Way NoMemory → ℕ → LinkEndsView L → LinkEndsView L → NetView → NetView → SingleView → SingleView → Type 0
MeetsInTurn seen now link way max old new net net' s s' =
    (start : Beginning) (before : NetView) → InTurn seen start old before s now 0 → Arrives start.origins (seen link) way max before net → InTurn seen start new net' s' now 0
