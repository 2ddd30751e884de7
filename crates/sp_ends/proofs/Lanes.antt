-- A lane becomes a pipe, or is refused: what holds of the links still holds.
use Rattle.std.proofs.Common.{◌≡◌, refl, ap, sym, ◌∙◌, List, [], ◌∷◌, ◌++◌, ℕ, ◌+◌, Bool, true, false, cond, arith, Option, Some, None, inl, inr, eq-eqb, eqb-true}
use Rattle.std.specs.Prelude.{◌==◌, ◌||◌, ◌⊎◌}
use Rattle.turn_lock.specs.declared.turn.Turn.{Turn}
use Rattle.sp_base.specs.Views.{LinkView, NetView}
use Rattle.sp_history.specs.declared.entry.Entry.{Entry}
use Rattle.sp_history.specs.declared.entry.Entry.TheVariants.{Up}
use Rattle.sp_history.specs.declared.entry.WireNumbers.{WireNumbers}
use Rattle.sp_history.specs.declared.setting.Setting.{Setting}
use Rattle.sp_history.specs.Lists.{has}
use Rattle.sp_history.specs.Legal.{Legal}
use Rattle.sp_history.specs.Past.{past_of, up, ups}
use Rattle.sp_history.proofs.Backing.{legal_allowed}
use Rattle.sp_core.specs.Standing.{HasFirst}
use Rattle.sp_core.specs.Moving.{AreSettling}
use Rattle.sp_socket.specs.Singles.{SingleView, TookOne}
use Rattle.sp_ends.specs.LinkRecords.{lane_place, no_limit, place_of, met_at, greeting}
use Rattle.sp_ends.specs.LinkCounts.{has_room}
use Rattle.sp_ends.specs.declared.newcomer.Newcomer.{Newcomer}
use Rattle.sp_ends.specs.EndViews.{Beginning}
use Rattle.sp_ends.specs.RunLinks.{EndsStand, IsLaneName, IsSomewhere, LinksKept, LinksStand, NetStands}
use Rattle.sp_ends.specs.NameSteps.{KeepsLinks}
use Rattle.sp_ends.proofs.LinkPlaces.{met_inside, unmet_others, absent, no_lane}
use Rattle.sp_ends.proofs.LaterEntries.{IsHeld, grown, numbered}
use Rattle.sp_ends.proofs.LinksStay.{legal_rest}
use Rattle.sp_ends.proofs.EndsStay.{are_progressing, net_same, ends_stay, settles}
use Rattle.sp_ends.proofs.LinkSteps.{stepped, held_after, met_after, greeting_after, greeting_ticks_after, ticks_after, where_after, IsBackAfter}
use Rattle.sp_ends.proofs.Turns.{after_one}

either : (a b : Bool) → a ≡ true → (a || b) ≡ true
either true b h = refl
either false b h = cc

module _ (z : Setting) (start : Beginning) (net : NetView) (h : List (Turn Entry)) (t : Turn Entry) (p limit : ℕ) (name : WireNumbers) (next : p ≡ ups (past_of h) + 1) (none : limit ≡ no_limit) (lane : IsLaneName name.numbers) (first : HasFirst (Up p lane_place limit name) t) (l : Legal z (h ++ t ∷ [])) (k : LinksKept z start h net) where
  abbrev more : List Entry
  more = Up p lane_place limit name ∷ past_of h

  off : has (greeting (past_of h)) lane_place ≡ false
  off = no_lane start.net.opened net.opened k.few (past_of h) k.in_place

  pub greeting_same : greeting more ≡ greeting (past_of h)
  greeting_same = absent (greeting (past_of h)) lane_place off

  not_yet : (q other : ℕ) → place_of (past_of h) q ≡ Some other → (p == q) ≡ true → ⊥
  not_yet q other is e = let n = numbered z (past_of h) q other (legal_allowed z h (legal_rest z h (t ∷ []) l).0) is in let same : p ≡ q = eqb-true p q e in omega (arith, n, same, next)

  pub place_still : (q other : ℕ) → place_of (past_of h) q ≡ Some other → place_of more q ≡ Some other
  place_still q other is = go (p == q) refl
    where
      go : (u : Bool) → (p == q) ≡ u → cond u (Some lane_place) (place_of (past_of h) q) ≡ Some other
      go true e = absurd (not_yet q other is e)
      go false e = is

  unmet : met_at (past_of h) lane_place ≡ None
  unmet = go (met_at (past_of h) lane_place) refl
    where
      go : (m : Option ℕ) → met_at (past_of h) lane_place ≡ m → met_at (past_of h) lane_place ≡ None
      go None e = e
      go (Some n) e = let b = met_inside start.net.opened net.opened (past_of h) lane_place k.in_place (rw e refl) in let f = k.few (omega (arith, b.0, b.1)) in absurd (omega (arith, b.1, f))

  somewhere : (q : ℕ) → IsSomewhere net (past_of h) q → IsSomewhere net more q
  somewhere q (inl g) = inl (ap (λ (xs : List ℕ). has xs q) greeting_same ∙ g)
  somewhere q (inr (inl x)) = inr (inl (x.0, place_still x.0 q x.1))
  somewhere q (inr (inr x)) = inr (inr x)

  carried : (q other : ℕ) → place_of more q ≡ Some other → (other ≡ lane_place → ⊥) → IsHeld more q ⊎ IsBackAfter z start net net h t (Up p lane_place limit name) first refl l k q other
  carried q other is n = go (p == q) refl is
    where
      still : IsHeld (past_of h) q → IsHeld more q
      still (inl x) = inl (grown (up (past_of h)) p q x)
      still (inr x) = inr x

      go : (u : Bool) → (p == q) ≡ u → cond u (Some lane_place) (place_of (past_of h) q) ≡ Some other → IsHeld more q ⊎ IsBackAfter z start net net h t (Up p lane_place limit name) first refl l k q other
      go true e x = let same : lane_place ≡ other = cc in absurd (n (sym same))
      go false e x = held_after z start net net h t (Up p lane_place limit name) first refl l k q other still refl x n

  kept_lane : LinksKept z start (h ++ t ∷ []) net
  kept_lane =
      stepped z start net net h t (Up p lane_place limit name) first refl l k (record {
        here = lane_place;
        opened = k.opened;
        more = omega arith;
        few = k.few;
        keeps = either (lane_place == lane_place) (has (greeting (past_of h)) lane_place) (eq-eqb lane_place lane_place refl);
        over = either (lane_place == lane_place) (has (greeting (past_of h)) lane_place) (eq-eqb lane_place lane_place refl);
        name = inr (refl, none, lane);
        cause = tt;
        met = k.met;
        somewhere = λ q a b. somewhere q (k.somewhere q a b);
        stays = λ q n. refl;
        others_missed = unmet_others start.net.opened net.opened (past_of h) lane_place k.in_place unmet;
        carried = carried;
        others = k.others;
      })

  module _ {L : Type 0} (seen : L → LinkView) (ns : List (Newcomer L)) (slack : ℕ) where
    links_lane : LinksStand seen z start h net ns slack → LinksStand seen z start (h ++ t ∷ []) net ns slack
    links_lane s =
        record {
          kept = kept_lane;
          progressing = are_progressing seen start.origins z (past_of h) (past_of (h ++ t ∷ [])) (met_after z start net net h t (Up p lane_place limit name) first refl l k) (greeting_ticks_after z start net net h t (Up p lane_place limit name) first refl l k) slack ns (greeting_after z start net net h t (Up p lane_place limit name) first refl l k ∙ greeting_same) s.progressing;
        }

-- ---- Over a turn

module _ {L : Type 0} (seen : L → LinkView) (says : Setting → List (Turn Entry) → Turn Entry → Type 0) (a b : SingleView) (took : TookOne says a b) where
  -- a lane came up
  pub keeps_lane : (p limit : ℕ) (name : WireNumbers) → p ≡ ups (past_of a.seen) + 1 → limit ≡ no_limit → IsLaneName name.numbers → HasFirst (Up p lane_place limit name) took.turn → KeepsLinks seen a b
  keeps_lane p limit name next none lane first start net ends s =
      after_one says a b took (λ z h. EndsStand seen z start h net ends) (λ l. record {
        role = s.role;
        links = links_lane a.setting start net a.seen took.turn p limit name next none lane first l s.links.kept seen ends.newcomers 0 s.links;
        asked = asked l;
        of_run = s.of_run;
      })
    where
      asked : Legal a.setting (a.seen ++ took.turn ∷ []) → NetStands start (past_of (a.seen ++ took.turn ∷ [])) (past_of (a.seen ++ took.turn ∷ [])) net ends.listeners ends.dialers
      asked l =
          let ticks = ticks_after a.setting start net net a.seen took.turn (Up p lane_place limit name) first refl l s.links.kept in
          let rooms = where_after a.setting start net net a.seen took.turn (Up p lane_place limit name) first refl l s.links.kept has_room in
          net_same start net ends.listeners ends.dialers (past_of a.seen) (past_of a.seen) (past_of (a.seen ++ took.turn ∷ [])) (past_of (a.seen ++ took.turn ∷ [])) ticks rooms ticks s.asked

  -- nothing did
  pub keeps_settled : AreSettling took.turn.entries → KeepsLinks seen a b
  keeps_settled q start net ends s =
      after_one says a b took (λ z h. EndsStand seen z start h net ends) (λ l. ends_stay seen a.setting a.seen (took.turn ∷ []) (rw (settles took.turn.entries q) refl) start net l ends s)

pub keeps_none : {L : Type 0} (seen : L → LinkView) (a : SingleView) → KeepsLinks seen a a
keeps_none seen a start net ends s = s

pub keeps_both : {L : Type 0} (seen : L → LinkView) (a b c : SingleView) → KeepsLinks seen a b → KeepsLinks seen b c → KeepsLinks seen a c
keeps_both seen a b c x y start net ends s = y start net ends (x start net ends s)
