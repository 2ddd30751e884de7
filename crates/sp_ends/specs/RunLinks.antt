-- The relation between the ends of a run, its net, and the history of its socket.
use Rattle.std.specs.Prelude.{◌≡◌, ◌≢◌, ◌≤◌, ◌<◌, ◌+◌, ◌*◌, ◌^◌, ◌++◌, ◌⊎◌, ◌==◌, ◌||◌, ℕ, ⊤, Bool, true, false, IsTrue, List, [], ◌∷◌, length, map, take, drop, Option, Some, None, is_some}
use Rattle.std.specs.List.{AllByRecursion}
use Rattle.std.specs.FinMap.{get}
use Rattle.turn_lock.specs.declared.turn.Turn.{Turn}
use Rattle.sp_base.specs.Outside.{Told}
use Rattle.sp_base.specs.SpStream.{scheme_under, stream_text}
use Rattle.sp_base.specs.declared.framing.Framing.{Framing}
use Rattle.sp_base.specs.Views.{LinkView, NetView}
use Rattle.sp_base.specs.Roles.{role_number}
use Rattle.sp_base.specs.declared.addr.Scheme.{Scheme}
use Rattle.sp_base.specs.declared.addr.Scheme.TheVariants as schemes
use Rattle.sp_base.specs.Addresses.{scheme_of, is_linked}
use Rattle.sp_base.specs.Wires.{OverLink, OverLanes, scheme_number, numbers_of}
use Rattle.sp_history.specs.declared.entry.Entry.{Entry}
use Rattle.sp_history.specs.declared.entry.Entry.TheVariants.{Up}
use Rattle.sp_history.specs.declared.setting.Setting.{Setting}
use Rattle.sp_history.specs.Lists.{has}
use Rattle.sp_history.specs.Past.{past_of, up, untaken, down_for, is_cleared, outs, limit_of}
use Rattle.sp_history.specs.declared.entry.Why.{Why}
use Rattle.sp_history.specs.declared.entry.Miss.{Miss}
use Rattle.sp_links.specs.Ways.{peer_number, HasOpened, BeganSo}
use Rattle.sp_ends.specs.Entries.{each}
use Rattle.sp_ends.specs.LinkRecords.{lane_place, place_of, met_at, greeting, keeps_places, Each, IsBack, HasCause, MissedFor, Carries, WentDownFor}
use Rattle.sp_ends.specs.LinkRecords.{KeepsOthers, no_limit}
use Rattle.sp_ends.specs.LinkCounts.{CanRise, greeting_ticks, IsAsked, IsRead, ticks_where, has_room}
use Rattle.sp_history.specs.Found.{ticks}
use Rattle.sp_ends.specs.declared.newcomer.Newcomer.{Newcomer}
use Rattle.sp_ends.specs.declared.dialer.Dialer.{Dialer}
use Rattle.sp_ends.specs.declared.listener.Listener.{Listener}
use Rattle.sp_links.specs.declared.way.Way.{Way}
use Rattle.sp_links.specs.declared.opening.Opening.{Opening}
use Rattle.sp_links.specs.Openings.{scheme_for}
use Rattle.sp_links.specs.Origins.{Origins, IsAmong, IsKnown, run_ways}
use Rattle.sp_links.specs.Going.{IsUnderWay, IsUndone, HasTried}
use Rattle.sp_links.specs.Numbers.{way_number}
use Rattle.sp_links.specs.Opened.{opened_number}
use Rattle.sp_ends.specs.Dialing.{IsDialed}
use Rattle.sp_ends.specs.EndViews.{LinkEndsView, Beginning}

-- ---- Links in progress

abbrev pub places : {L : Type 0} → (L → LinkView) → List (Newcomer L) → List ℕ
places seen ns = map (λ (n : Newcomer _). (seen n.opening.link).place) ns

-- the opening is one of the run's: in its role, in a known way, for the link's scheme
pub record IsOfRun {L : Type 0} (seen : L → LinkView) (o : Origins) (z : Setting) (n : Opening L) : Type 0 where
  pub role : n.role ≡ z.role
  pub scheme : (seen n.link).scheme ≡ scheme_for n.way
  pub known : IsKnown o n.way

-- in the order in which they were handed out, where the first k are still to be greeted in this round
abbrev pub in_order : {A : Type 0} → ℕ → List A → List A
in_order k xs = drop k xs ++ take k xs

-- A link in progress, met at its tick. It returned at least once a tick that nothing was there or that it took nothing,
-- except for `slack` ticks
pub record IsProgressing {L : Type 0} (seen : L → LinkView) (o : Origins) (z : Setting) (past : List Entry) (slack : ℕ) (n : Newcomer L) : Type 0 where
  pub under_way : IsUnderWay seen n.opening
  pub of_run : IsOfRun seen o z n.opening
  pub met : met_at past (seen n.opening.link).place ≡ Some n.met
  pub limit : IsAmong n.max o.limits
  pub asked : CanRise (seen n.opening.link).idles → CanRise (seen n.opening.link).stalls → greeting_ticks past (seen n.opening.link).place ≤ (seen n.opening.link).idles + (seen n.opening.link).stalls + slack

-- the same for a link that was greeted in this round
pub record WasGreeted {L : Type 0} (seen : L → LinkView) (o : Origins) (z : Setting) (past : List Entry) (n : Newcomer L) : Type 0 where
  pub progressing : IsProgressing seen o z past 0 n
  pub undone : IsUndone seen n.opening
  pub tried : HasTried seen n.opening

-- the first k are still to be greeted in this round
pub record AreProgressing {L : Type 0} (seen : L → LinkView) (o : Origins) (z : Setting) (past : List Entry) (k : ℕ) (ns : List (Newcomer L)) : Type 0 where
  pub within : k ≤ length ns
  pub ungreeted : AllByRecursion (IsProgressing seen o z past 1) (take k ns)
  pub rest : AllByRecursion (WasGreeted seen o z past) (drop k ns)
  pub all : places seen (in_order k ns) ≡ greeting past

-- ---- Pipes

-- none, or this number
abbrev pub IsNoneOr : ℕ → Option ℕ → Type 0
IsNoneOr n None = ⊤
IsNoneOr n (Some m) = m ≡ n

-- the two numbers in the name of a wire: over TCP and IPC those of the two roles, where told; over WebSocket that of the own
-- role, and that of the way in which its link began
abbrev pub AreNumbers : Origins → Setting → Scheme → Option ℕ → Option ℕ → Type 0
AreNumbers o z schemes.Tcp own peer = IsNoneOr (role_number z.role) own × IsNoneOr (peer_number z.role) peer
AreNumbers o z schemes.Ws own peer = (own ≡ Some (role_number z.role)) × ((way : Way) × (peer ≡ Some (way_number way)) × (scheme_for way ≡ schemes.Ws) × IsKnown o way)
AreNumbers o z schemes.Inproc own peer = ⊥
AreNumbers o z schemes.Ipc own peer = IsNoneOr (role_number z.role) own × IsNoneOr (peer_number z.role) peer

-- the number in place of the scheme's in the name of a wire
abbrev pub name_number : Scheme → ℕ
name_number schemes.Tcp = scheme_number schemes.Tcp
name_number schemes.Ws = opened_number (scheme_number schemes.Ws)
name_number schemes.Inproc = scheme_number schemes.Inproc
name_number schemes.Ipc = scheme_number schemes.Ipc

-- the name of a wire over the link with this place, with this receive limit. While the link was in progress it returned
-- at least once a tick, except for one tick, that nothing was there or that it took nothing
pub record IsNameOver (o : Origins) (z : Setting) (past : List Entry) (place max : ℕ) (numbers : List ℕ) : Type 0 where
  pub scheme : Scheme
  pub spent : ℕ
  pub own : Option ℕ
  pub peer : Option ℕ
  pub is : numbers ≡ numbers_of (OverLink place max (name_number scheme) spent own peer)
  pub are : AreNumbers o z scheme own peer
  pub rounds : CanRise spent → greeting_ticks past place ≤ spent + 1

-- the name of a wire over two lanes
abbrev pub IsLaneName : List ℕ → Type 0
IsLaneName numbers = (out : List ℕ) × (inward : List ℕ) × (numbers ≡ numbers_of (OverLanes out inward))

-- a pipe has the receive limit of an end, and the name of a wire over its link with this limit; at the place of lanes,
-- and only there, it has no limit, and the name of a wire over lanes
abbrev pub IsNamed : Origins → Setting → List Entry → Entry → Type 0
IsNamed o z past (Up p place limit name) =
    (place ≢ lane_place) × IsAmong limit o.limits × IsNameOver o z past place limit name.numbers ⊎ (place ≡ lane_place) × (limit ≡ no_limit) × IsLaneName name.numbers
IsNamed o z past _ = ⊤

-- a link that carried this pipe
pub record HasCarried (o : Origins) (z : Setting) (h : List (Turn Entry)) (p : ℕ) (link : LinkView) : Type 0 where
  pub max : ℕ
  pub limit : limit_of (past_of h) p ≡ Some max
  pub limit_is : IsAmong max o.limits
  pub opened : BeganSo (run_ways z.role o) link (λ way. HasOpened (run_ways z.role o) way link)
  pub carries : (framing : Framing) → link.scheme ≡ scheme_under framing → Carries framing z (past_of h) p link
  pub went_down : (framing : Framing) → link.scheme ≡ scheme_under framing → (why : Why) → down_for (past_of h) p ≡ Some why → WentDownFor framing z max (past_of h) p why link
  pub read : IsRead h p link
  -- over TCP and IPC, where all was cleared, all that was put is written
  pub whole : (framing : Framing) → link.scheme ≡ scheme_under framing → is_cleared (past_of h) p ≡ true → Told link.written (λ written. written ≡ stream_text framing (role_number z.role) (outs (past_of h) p))

-- ---- Links that are back

-- the link is in its place, and shut
abbrev pub IsShut : ℕ → LinkView → Type 0
IsShut place link = (link.place ≡ place) × (link.is_open ≡ false)

-- a pipe was up over the link with this place
abbrev pub IsPipe : List Entry → ℕ → Type 0
IsPipe past place = (p : ℕ) × (place_of past p ≡ Some place)

-- where a link of the run is: in progress, with the socket or back from it, or back without having been a pipe
abbrev pub IsSomewhere : NetView → List Entry → ℕ → Type 0
IsSomewhere net past place =
    (has (greeting past) place ≡ true) ⊎ IsPipe past place ⊎ IsBack net.back place (λ link. IsShut place link × IsAsked past place link)

-- the same, for a history whose ticks can be counted
abbrev pub IsAskedIn : List Entry → ℕ → LinkView → Type 0
IsAskedIn past place link = length (ticks past) < 2 ^ 64 → IsAsked past place link

-- a pipe over a link is up, or its wire is still to be taken, or its link is back
abbrev pub IsCarried : Origins → Setting → List (Turn Entry) → NetView → ℕ → ℕ → Type 0
IsCarried o z h net p place =
    IsTrue (has (up (past_of h)) p) ⊎ IsTrue (has (untaken (past_of h)) p) ⊎ IsBack net.back place (λ link. IsShut place link × IsAskedIn (past_of h) place link × HasCarried o z h p link)

-- ---- All links

-- a pipe comes up over a link in progress, or over lanes
abbrev pub is_over_link : List Entry → Entry → Bool
is_over_link past (Up p place limit name) = (place == lane_place) || has (greeting past) place
is_over_link past _ = true

-- what holds of the links of the run other than those in progress
pub record LinksKept (z : Setting) (start : Beginning) (h : List (Turn Entry)) (net : NetView) : Type 0 where
  pub opened : start.net.opened ≤ net.opened
  pub few : start.net.opened < net.opened → net.opened ≤ lane_place
  pub in_place : IsTrue (each (keeps_places start.net.opened net.opened) (past_of h))
  pub over_links : IsTrue (each is_over_link (past_of h))
  pub named : Each (IsNamed start.origins z) (past_of h)
  pub met : (place : ℕ) → start.net.opened ≤ place → place < net.opened → is_some (met_at (past_of h) place) ≡ true
  pub somewhere : (place : ℕ) → start.net.opened ≤ place → place < net.opened → IsSomewhere net (past_of h) place
  pub missed : Each (HasCause (run_ways z.role start.origins) z h net.back) (past_of h)
  pub carried : (p place : ℕ) → place_of (past_of h) p ≡ Some place → place ≢ lane_place → IsCarried start.origins z h net p place
  pub others : KeepsOthers start.net net

-- what holds of all links of the run, where the first k of those in progress are still to be greeted in this round
pub record LinksStand {L : Type 0} (seen : L → LinkView) (z : Setting) (start : Beginning) (h : List (Turn Entry)) (net : NetView) (ns : List (Newcomer L)) (k : ℕ) : Type 0 where
  pub kept : LinksKept z start h net
  pub progressing : AreProgressing seen start.origins z (past_of h) k ns

-- one link was taken out, before those that are still to be greeted; it was greeted in this round
pub record InHand {L : Type 0} (seen : L → LinkView) (o : Origins) (z : Setting) (past : List Entry) (ns : List (Newcomer L)) (k : ℕ) (link : LinkView) : Type 0 where
  pub within : k ≤ length ns
  pub ungreeted : AllByRecursion (IsProgressing seen o z past 1) (take k ns)
  pub rest : AllByRecursion (WasGreeted seen o z past) (drop k ns)
  pub all : places seen (drop k ns) ++ link.place ∷ places seen (take k ns) ≡ greeting past
  pub asked : CanRise link.idles → CanRise link.stalls → greeting_ticks past link.place ≤ link.idles + link.stalls + 1

-- the same, with all other links of the run
pub record HandStands {L : Type 0} (seen : L → LinkView) (z : Setting) (start : Beginning) (h : List (Turn Entry)) (net : NetView) (ns : List (Newcomer L)) (k : ℕ) (link : LinkView) : Type 0 where
  pub kept : LinksKept z start h net
  pub hand : InHand seen start.origins z (past_of h) ns k link

-- the link began in a known way, and once shut it is one that was missed for this cause
abbrev pub IsCauseOf : Origins → Setting → List (Turn Entry) → Miss → LinkView → Type 0
IsCauseOf o z h miss link = BeganSo (run_ways z.role o) link (λ way. MissedFor (run_ways z.role o) z h (past_of h) link.place miss (record link { is_open = false }) way)

-- ---- The net

abbrev pub sum_of : NetView → ℕ
sum_of net = net.idles + net.faults + net.opened

abbrev pub tries_of : List Dialer → ℕ
tries_of [] = 0
tries_of (d ∷ ds) = tries_of ds + d.tries

-- the net listens there, at an address over links
pub record IsListener (net : NetView) (l : Listener) : Type 0 where
  pub listens : get net.listens l.at ≡ Some (scheme_of l.addr)
  pub linked : is_linked l.addr ≡ true

-- each listener was asked at each tick of the first past at which there was room, and each address was dialed as it may
-- be at the ticks of the second
pub record NetStands (start : Beginning) (asked dialed : List Entry) (net : NetView) (listeners : List Listener) (dialers : List Dialer) : Type 0 where
  pub few : length listeners + length dialers ≤ 64
  pub listens : AllByRecursion (IsListener net) listeners
  pub dials : AllByRecursion (IsDialed (net.opened ≡ start.net.opened) dialed) dialers
  pub first : ticks asked ≡ [] → net.opened ≡ start.net.opened
  pub idles : start.net.idles ≤ net.idles
  pub faults : start.net.faults ≤ net.faults
  pub rose : CanRise net.idles → CanRise net.faults → sum_of start.net + length listeners * ticks_where has_room asked + tries_of dialers ≤ sum_of net

-- ---- All of it

-- the addresses, the dice and the receive limits of the ends are the run's
pub record AreOfRun {L : Type 0} (o : Origins) (ends : LinkEndsView L) : Type 0 where
  pub listens : AllByRecursion (λ l. IsAmong l.addr o.listens) ends.listeners
  pub dials : AllByRecursion (λ d. IsAmong d.addr o.dials) ends.dialers
  pub dice : ends.dice ≡ o.dice
  pub listen_limits : AllByRecursion (λ l. IsAmong l.max o.limits) ends.listeners
  pub dial_limits : AllByRecursion (λ d. IsAmong d.max o.limits) ends.dialers

-- between two rounds
pub record EndsStand {L : Type 0} (seen : L → LinkView) (z : Setting) (start : Beginning) (h : List (Turn Entry)) (net : NetView) (ends : LinkEndsView L) : Type 0 where
  pub role : ends.role ≡ z.role
  pub links : LinksStand seen z start h net ends.newcomers 0
  pub asked : NetStands start (past_of h) (past_of h) net ends.listeners ends.dialers
  pub of_run : AreOfRun start.origins ends

-- no result of the net was counted, and it listens as before
pub record SameCounts (old new : NetView) : Type 0 where
  pub listens : new.listens ≡ old.listens
  pub opened : new.opened ≡ old.opened
  pub faults : new.faults ≡ old.faults
  pub idles : new.idles ≡ old.idles
