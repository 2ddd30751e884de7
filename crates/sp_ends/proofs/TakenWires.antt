-- The wire of a pipe that is down is taken, and its link is back.
use Rattle.std.proofs.Common.{◌≡◌, ap, sym, ◌∙◌, subst, List, ℕ, ◌<◌, false, Option, Some, None}
use Rattle.sp_base.specs.Views.{LinkView, NetView}
use Rattle.sp_base.specs.Wires.{numbers_of}
use Rattle.turn_lock.specs.declared.turn.Turn.{Turn}
use Rattle.sp_links.specs.declared.wire.EndWire.{EndWire}
use Rattle.sp_links.specs.EndWires.{shown, link_of}
use Rattle.sp_history.specs.declared.entry.Entry.{Entry}
use Rattle.sp_history.specs.declared.entry.Why.{Why}
use Rattle.sp_history.specs.declared.setting.Setting.{Setting}
use Rattle.sp_history.specs.Lists.{has}
use Rattle.sp_history.specs.Legal.{Legal}
use Rattle.sp_history.specs.Past.{past_of, up}
use Rattle.sp_history.proofs.Backing.{legal_allowed}
use Rattle.core_state.specs.Wires.{IsDownWire}
use Rattle.sp_ends.specs.LinkRecords.{lane_place, place_of}
use Rattle.sp_ends.specs.EndViews.{Beginning}
use Rattle.sp_ends.specs.RunLinks.{HasCarried, IsAskedIn, LinksKept}
use Rattle.sp_ends.specs.ShutWires.{IsLeftOf, shut_link, shut_under}
use Rattle.sp_ends.proofs.LinkPlaces.{up_inside}
use Rattle.sp_ends.proofs.TurnParts.{down_off}
use Rattle.sp_ends.proofs.LeavingAll.{named_place}
use Rattle.sp_ends.proofs.LeavingWires.{NamedSo, named_so, carried_by, at_link, at_lanes, LeftBy}

-- what the link of a pipe that is down shows
pub record IsLeft (z : Setting) (start : Beginning) (net : NetView) (h : List (Turn Entry)) (p : ℕ) (link : LinkView) : Type 0 where
  pub is_place : place_of (past_of h) p ≡ Some link.place
  pub inside : link.place < net.opened
  pub no_lane : link.place ≡ lane_place → ⊥
  pub off : has (up (past_of h)) p ≡ false
  pub is_shut : link.is_open ≡ false
  pub asked : IsAskedIn (past_of h) link.place link
  pub carries : HasCarried start.origins z h p link

pub shut_open : (o : Option LinkView) (l : LinkView) → shut_under o ≡ Some l → l.is_open ≡ false
shut_open None l e = cc
shut_open (Some x) l e = sym (ap (λ (v : LinkView). v.is_open) (same (shut_link x) l e))
  where
    same : (a b : LinkView) → Some a ≡ Some b → a ≡ b
    same a b h = cc

module _ {L : Type 0} (seen : L → LinkView) (z : Setting) (start : Beginning) (net : NetView) (h : List (Turn Entry)) (p : ℕ) (why : Why) (w : EndWire L) (k : LinksKept z start h net) (down : IsDownWire z (past_of h) p why (shown w)) where
  abbrev named : (place : ℕ) × (place_of (past_of h) p ≡ Some place)
  named = named_place (past_of h) p (numbers_of (shown w).name) down.agrees.name_is

  abbrev at_place : NamedSo start.origins z (past_of h) p named.0
  at_place = named_so start.origins z start.net.opened net.opened (past_of h) p named.0 k.in_place k.few k.named named.1

  pub left_by : (link : L) → Legal z h → IsLeftOf seen w (Some link) → IsLeft z start net h p (seen link)
  left_by link l left =
      let s = left.shut in
      let over = at_link start.origins z h p named.0 at_place why (shown w) down s.shut s.after s.stands (seen link) (s.over ∙ left.link_is) in
      let by : LeftBy start.origins z h p named.0 (seen link) = carried_by start.origins z h p named.0 over.1 why (shown w) down s.shut s.after s.stands (seen link) (s.over ∙ left.link_is) in
      let same : place_of (past_of h) p ≡ Some (seen link).place = named.1 ∙ ap Some (sym by.place_is) in
      record {
        is_place = same;
        inside = (up_inside start.net.opened net.opened k.few (past_of h) p (seen link).place k.in_place k.over_links same (λ l. over.0 (sym by.place_is ∙ l))).1;
        no_lane = λ l. over.0 (sym by.place_is ∙ l);
        off = (down_off z (past_of h) p why (legal_allowed z h l) down.why_is).1;
        is_shut = shut_open (link_of w) (seen link) left.link_is;
        asked = subst (λ (q : ℕ). IsAskedIn (past_of h) q (seen link)) (sym by.place_is) by.asked;
        carries = by.carried;
      }

  -- it has a link, unless it is over lanes
  pub lane_left : IsLeftOf seen w None → place_of (past_of h) p ≡ Some lane_place
  lane_left left =
      let s = left.shut in
      named.1 ∙ ap (λ (m : ℕ). Some m) (at_lanes start.origins z h p named.0 at_place why (shown w) down s.shut s.after s.lanes (s.over ∙ left.link_is))
