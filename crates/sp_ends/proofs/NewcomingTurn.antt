-- A link that was just handed out, and what asking the net leaves.
use Rattle.std.proofs.Common.{◌≡◌, ◌<◌, ℕ, List, length, Option, Some, Result, Ok, IfOk, refl, sym, ap, subst, ◌∙◌}
use Rattle.turn_lock.specs.declared.turn.Turn.{Turn}
use Rattle.sp_base.specs.Views.{LinkView, NetView}
use Rattle.sp_base.specs.Steps.{IsHandedOut, Untouched}
use Rattle.sp_base.specs.declared.role.Role.{Role}
use Rattle.sp_history.specs.declared.entry.Entry.{Entry}
use Rattle.sp_history.specs.declared.entry.Entry.TheVariants.{Met}
use Rattle.sp_history.specs.declared.setting.Setting.{Setting}
use Rattle.sp_history.specs.Past.{past_of}
use Rattle.sp_core.specs.Standing.{HasFirst}
use Rattle.sp_socket.specs.Singles.{SingleView, TookOne}
use Rattle.sp_ends.specs.LinkRecords.{has_dry_miss}
use Rattle.sp_ends.specs.declared.newcomer.Newcomer.{Newcomer}
use Rattle.sp_links.specs.declared.way.Way.{Way}
use Rattle.sp_links.specs.Openings.{scheme_for}
use Rattle.sp_links.specs.Origins.{IsAmong, IsKnown}
use Rattle.sp_base.specs.declared.error.NoMemory.{NoMemory}
use Rattle.sp_base.specs.declared.addr.Scheme.{Scheme}
use Rattle.sp_history.specs.declared.entry.Miss.TheVariants as misses
use Rattle.sp_ends.specs.LinkRecords.{met_at}
use Rattle.sp_ends.specs.EndViews.{Beginning, LinkEndsView}
use Rattle.sp_ends.specs.RunLinks.{IsOfRun, IsCauseOf, LinksKept, LinksStand, HandStands}
use Rattle.sp_ends.specs.SocketSteps.{Quietly, NoLane}
use Rattle.sp_ends.specs.EndsTurns.{InTurn, InTurnWith, Arrives}
use Rattle.sp_ends.specs.NewcomerSteps.{IsNewcomer}
use Rattle.sp_ends.proofs.Hands.{link_met, met_then, hand_first}
use Rattle.sp_ends.proofs.Turns.{first_play, quiet_one, quiet_now, quiet_ticks, lane_first, lanes_one, sound_one, dry_first, after_one}

abbrev pub MeetsAt : ℕ → Setting → List (Turn Entry) → Turn Entry → Type 0
MeetsAt place z h t = HasFirst (Met place) t

pub meets_quiet : (place : ℕ) (a b : SingleView) → TookOne (MeetsAt place) a b → Quietly a b
meets_quiet place a b took = quiet_one (MeetsAt place) a b took (first_play (Met place) took.turn took.said refl)

pub meets_lanes : (place : ℕ) (a b : SingleView) → TookOne (MeetsAt place) a b → NoLane a b
meets_lanes place a b took = lanes_one (MeetsAt place) a b took (lane_first (Met place) took.turn took.said refl)

pub meets_dry : (place : ℕ) (a b : SingleView) → TookOne (MeetsAt place) a b → has_dry_miss (past_of b.seen) ≡ has_dry_miss (past_of a.seen)
meets_dry place a b took = dry_first (Met place) (MeetsAt place) a b took took.said

-- a link that was handed out is in hand, once it is met
pub met_hand : {L : Type 0} (seen : L → LinkView) (start : Beginning) (before net : NetView) (ends : LinkEndsView L) (a b : SingleView) (t : ℕ) (link : LinkView) (place : ℕ) (scheme : Option Scheme) → place ≡ link.place → TookOne (MeetsAt place) a b → IsHandedOut link scheme before net → InTurn seen start ends before a t 0
    → HandStands seen b.setting start b.seen net ends.newcomers 0 link
met_hand seen start before net ends a b t link place scheme at took handed i =
    let first : HasFirst (Met link.place) took.turn = subst (λ (p : ℕ). HasFirst (Met p) took.turn) at took.said in
    after_one (MeetsAt place) a b took (λ z h. HandStands seen z start h net ends.newcomers 0 link) (λ l. link_met seen a.setting start before net a.seen took.turn ends.newcomers link scheme handed first l i.links)

-- it was met at this tick
met_when : {L : Type 0} (seen : L → LinkView) (start : Beginning) (before net : NetView) (ends : LinkEndsView L) (a b : SingleView) (t : ℕ) (link : LinkView) (place : ℕ) → place ≡ link.place → TookOne (MeetsAt place) a b → InTurn seen start ends before a t 0 → met_at (past_of b.seen) link.place ≡ Some t
met_when seen start before net ends a b t link place at took i =
    let first : HasFirst (Met link.place) took.turn = subst (λ (p : ℕ). HasFirst (Met p) took.turn) at took.said in
    after_one (MeetsAt place) a b took (λ z h. met_at (past_of h) link.place ≡ Some t) (λ l. met_then seen a.setting start before net a.seen took.turn link first l i.links.kept ∙ ap Some (sym i.now_is))

scheme_is : (a b : Scheme) → Some a ≡ Some b → a ≡ b
scheme_is a b e = cc

-- the newcomer over it is before the others
pub newcomer_met : {L : Type 0} (seen : L → LinkView) (start : Beginning) (before net : NetView) (ends : LinkEndsView L) (a b : SingleView) (t : ℕ) (n : Newcomer L) (link : L) (place : ℕ) (role : Role) (way : Result Way NoMemory) (max : ℕ) (begins : Way) (from : Option ℕ) → place ≡ (seen link).place → way ≡ Ok begins → IsNewcomer seen link role begins t from max n → role ≡ ends.role
    → TookOne (MeetsAt place) a b → Arrives start.origins (seen link) way max before net → InTurn seen start ends before a t 0 → InTurnWith seen start n ends net b t 0
newcomer_met seen start before net ends a b t n link place role way max begins from place_is way_is newcomer role_is took r i =
    let quiet = meets_quiet place a b took in
    let setting_is : a.setting.role ≡ b.setting.role = ap (λ (z : Setting). z.role) (sym took.setting) in
    let same : begins ≡ r.begins = subst (λ (w : Result Way NoMemory). IfOk w (λ x. x ≡ r.begins)) way_is r.is in
    let begun : n.opening.way ≡ r.begins = newcomer.fresh.way_is ∙ same in
    let link_is : (seen link) ≡ (seen n.opening.link) = ap seen (sym newcomer.fresh.link_is) in
    let hand = met_hand seen start before net ends a b t (seen link) place (Some (scheme_for r.begins)) place_is took r.handed i in
    let run : IsOfRun seen start.origins b.setting n.opening = record {
      role = newcomer.fresh.role_is ∙ (role_is ∙ (i.role ∙ setting_is));
      scheme = ap (λ (v : LinkView). v.scheme) (sym link_is) ∙ (scheme_is (seen link).scheme (scheme_for r.begins) r.handed.scheme ∙ ap scheme_for (sym begun));
      known = subst (λ (w : Way). IsKnown start.origins w) (sym begun) r.known;
    } in
    let met : met_at (past_of b.seen) (seen n.opening.link).place ≡ Some n.met =
    subst (λ (v : LinkView). met_at (past_of b.seen) v.place ≡ Some n.met) link_is (met_when seen start before net ends a b t (seen link) place place_is took i ∙ ap Some (sym newcomer.met_is)) in
    record {
      role = i.role ∙ setting_is;
      links = hand_first seen b.setting start net b.seen ends.newcomers n (subst (λ (v : LinkView). HandStands seen b.setting start b.seen net ends.newcomers 0 v) link_is hand) newcomer.under_way run met (subst (λ (m : ℕ). IsAmong m start.origins.limits) (sym newcomer.max_is) r.limit);
      of_run = i.of_run;
      now_is = quiet_now t a b quiet i.now_is;
      ticked = subst (λ (ts : List ℕ). 0 < length ts) (sym (quiet_ticks a b quiet)) i.ticked;
      sound = sound_one (MeetsAt place) a b took;
    }

-- out of memory is a cause of any link that arrives
pub dry_cause : (start : Beginning) (z : Setting) (h : List (Turn Entry)) (link : LinkView) (way : Result Way NoMemory) (max : ℕ) (before net : NetView) → Arrives start.origins link way max before net → IsCauseOf start.origins z h misses.NoMemory link
dry_cause start z h link way max before net r = (r.begins, (scheme_is link.scheme (scheme_for r.begins) r.handed.scheme, r.known), tt)

-- ---- No link was handed out

module _ {L : Type 0} (seen : L → LinkView) (z : Setting) (start : Beginning) (h : List (Turn Entry)) where
  same_kept : (net net' : NetView) → net'.opened ≡ net.opened → net'.back ≡ net.back → LinksKept z start h net → LinksKept z start h net'
  same_kept net net' o b k = subst (LinksKept z start h) is k'
    where
      mid : NetView
      mid = record net' { opened = net.opened; back = net.back }

      is : mid ≡ net'
      is = made net'.listens net.opened net'.opened net.back net'.back net'.faults net'.idles (sym o) (sym b)
        where
          made : (l : _) (p p' : ℕ) (c c' : _) (f i : ℕ) → p ≡ p' → c ≡ c' → ◌≡◌ {A = NetView} (record { listens = l; opened = p; back = c; faults = f; idles = i }) (record { listens = l; opened = p'; back = c'; faults = f; idles = i })
          made l p p' c c' f i x y = cc

      k' : LinksKept z start h mid
      k' = record { opened = k.opened; few = k.few; in_place = k.in_place; over_links = k.over_links; named = k.named; met = k.met; somewhere = k.somewhere; missed = k.missed; carried = k.carried; others = k.others }

  pub same_links : (net net' : NetView) (ns : List (Newcomer L)) (k : ℕ) → Untouched net net' → LinksStand seen z start h net ns k → LinksStand seen z start h net' ns k
  same_links net net' ns k u s = record { kept = same_kept net net' u.opened u.back s.kept; progressing = s.progressing }

pub untouched : {L : Type 0} (seen : L → LinkView) (start : Beginning) (ends : LinkEndsView L) (net net' : NetView) (s : SingleView) (t k : ℕ) → Untouched net net' → InTurn seen start ends net s t k → InTurn seen start ends net' s t k
untouched seen start ends net net' s t k u i = record { role = i.role; links = same_links seen s.setting start s.seen net net' ends.newcomers k u i.links; of_run = i.of_run; now_is = i.now_is; ticked = i.ticked; sound = i.sound }
