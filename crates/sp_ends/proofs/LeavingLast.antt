-- What holds of the links of a run once all were given back.
use Rattle.std.proofs.Common.{◌≡◌, ◌≤◌, ◌<◌, ℕ, Bool, true, false, List, [], ◌∷◌, length, Option, Some, None, refl, sym, ap, subst, ◌∙◌, inl, inr, arith, append-nil, eq-eqb}
use Rattle.std.specs.Prelude.{⊤, ◌==◌, ◌^◌, ◌⊎◌, ◌||◌, ◌&&◌, not, IsTrue, is_some}
use Rattle.std.proofs.lemmas.Bool.{ne_eqb}
use Rattle.std.specs.List.{AllByRecursion}
use Rattle.std.specs.FinMap.{FinMap, get}
use Rattle.std.specs.Ordering.{nat_cmp}
use Rattle.turn_lock.specs.declared.turn.Turn.{Turn}
use Rattle.sp_base.specs.Outside.{Told}
use Rattle.sp_base.specs.SpStream.{stream_text}
use Rattle.sp_base.specs.Roles.{role_number}
use Rattle.sp_base.specs.Views.{LinkView, NetView}
use Rattle.sp_links.specs.declared.wire.EndWire.{EndWire}
use Rattle.sp_links.specs.EndWires.{shown, link_of}
use Rattle.sp_links.specs.Origins.{Origins, run_ways}
use Rattle.sp_history.specs.declared.entry.Entry.{Entry}
use Rattle.sp_history.specs.declared.entry.Entry.TheVariants.{Up, NoUp}
use Rattle.sp_history.specs.declared.setting.Setting.{Setting}
use Rattle.sp_history.specs.Found.{ticks}
use Rattle.sp_history.specs.Legal.{Legal}
use Rattle.sp_history.specs.Lists.{has}
use Rattle.sp_history.specs.Past.{past_of, is_closed, up, untaken, outs}
use Rattle.sp_history.proofs.OnceHolds.{closed_pipes}
use Rattle.core_state.specs.declared.pipes.DownPipe.{DownPipe}
use Rattle.core_state.specs.Pipes.{down_ids}
use Rattle.sp_core.specs.Parts.{HasWires}
use Rattle.core_state.specs.Wires.{IsDownWire}
use Rattle.sp_ends.specs.Entries.{each}
use Rattle.sp_ends.specs.LinkRecords.{Records, lane_place, place_of, greeting, Each, HasCause, IsBack, IsUndone, times_out_rightly}
use Rattle.sp_ends.specs.LinkRecords.{KeepsOthers, AreWhole, keeps_limits, no_limit}
use Rattle.sp_ends.specs.LinkCounts.{IsAsked, greeting_ticks}
use Rattle.sp_ends.specs.declared.newcomer.Newcomer.{Newcomer}
use Rattle.sp_ends.specs.EndViews.{Beginning, LinkEndsView}
use Rattle.sp_ends.specs.RunLinks.{places, in_order, WasGreeted, LinksKept, EndsStand, HasCarried, IsNamed, IsShut, IsCarried, IsSomewhere, SameCounts}
use Rattle.sp_ends.specs.LeftLinks.{LinksLeft, ClosedCleared}
use Rattle.sp_ends.specs.ShutWires.{with_links, with_wires, CanShut, IsBelow, AreHandedOut, shut_link, shut_under}
use Rattle.sp_ends.proofs.LinkPlaces.{passed, inside, met_inside, up_inside, up_once}
use Rattle.sp_ends.proofs.LeavingWires.{NamedAt, NamedSo, named_so, LeftBy, carried_by, at_link, at_lanes}
use Rattle.sp_ends.proofs.LeavingAll.{from_all, OneOf, IsElsewhere, NoneOf, look_wires, at_id, both_of, mapped_all, shut_of, OneCame, NoneCame, look_links, was_missed, missed_place, missed_rests, named_place}
use Rattle.sp_ends.proofs.GreetingCauses.{incomplete, wrote}

-- ---- A link that was left in progress

undone : {L : Type 0} (seen : L → LinkView) (o : Origins) (z : Setting) (past : List Entry) (n : Newcomer L) (was : WasGreeted seen o z past n) (h : List (Turn Entry)) → IsUndone (run_ways z.role o) z h (shut_of seen (λ _. ⊤) n)
undone seen o z past n was h =
    let run = was.progressing.of_run in
    (n.opening.way, (run.scheme, run.known), (incomplete seen o z n.opening run was.undone, wrote seen o z n.opening run was.tried))

-- ---- Where each link is

-- the link of a wire, shut, is what is left of its pipe; a wire that has none was over lanes
pub record WireLeft {L : Type 0} (o : Origins) (z : Setting) (h : List (Turn Entry)) (x : DownPipe (EndWire L)) : Type 0 where
  pub lanes : link_of x.wire ≡ None → place_of (past_of h) x.id ≡ Some lane_place
  pub came_up : (link : LinkView) → link_of x.wire ≡ Some link → place_of (past_of h) x.id ≡ Some link.place
  pub no_lane : (link : LinkView) → link_of x.wire ≡ Some link → link.place ≡ lane_place → ⊥
  pub left_ : (link : LinkView) → link_of x.wire ≡ Some link → LeftBy o z h x.id link.place (shut_link link)

module _ {L : Type 0} (z : Setting) (start : Beginning) (h : List (Turn Entry)) (net : NetView) (kept : LinksKept z start h net) (x : DownPipe (EndWire L)) (down : IsDownWire z (past_of h) x.id x.why (shown x.wire)) (shuts : CanShut x.wire) where
  abbrev at_place : (place : ℕ) × (place_of (past_of h) x.id ≡ Some place)
  at_place = named_place (past_of h) x.id _ down.agrees.name_is

  abbrev so : NamedSo start.origins z (past_of h) x.id at_place.0
  so = named_so start.origins z start.net.opened net.opened (past_of h) x.id at_place.0 kept.in_place kept.few kept.named at_place.1

  over_link : (link : LinkView) → link_of x.wire ≡ Some link → (at_place.0 ≡ lane_place → ⊥) × NamedAt start.origins z (past_of h) x.id at_place.0
  over_link link e = at_link start.origins z h x.id at_place.0 so x.why (shown x.wire) down shuts.shut shuts.after shuts.stands (shut_link link) (shuts.over ∙ ap shut_under e)

  by_link : (link : LinkView) → link_of x.wire ≡ Some link → LeftBy start.origins z h x.id at_place.0 (shut_link link)
  by_link link e = carried_by start.origins z h x.id at_place.0 (over_link link e).1 x.why (shown x.wire) down shuts.shut shuts.after shuts.stands (shut_link link) (shuts.over ∙ ap shut_under e)

  wire_left : WireLeft start.origins z h x
  wire_left =
      record {
        lanes = λ e. at_place.1 ∙ ap (λ (m : ℕ). Some m) (at_lanes start.origins z h x.id at_place.0 so x.why (shown x.wire) down shuts.shut shuts.after shuts.lanes (shuts.over ∙ ap shut_under e));
        came_up = λ link e. at_place.1 ∙ ap (λ (m : ℕ). Some m) (sym (by_link link e).place_is);
        no_lane = λ link e l. (over_link link e).0 (sym (by_link link e).place_is ∙ l);
        left_ = λ link e. subst (λ (m : ℕ). LeftBy start.origins z h x.id m (shut_link link)) (sym (by_link link e).place_is) (by_link link e);
      }

is_true_false : (b : Bool) → b ≡ true → b ≡ false → ⊥
is_true_false b t f = let no : true ≡ false = sym t ∙ f in cc

in_greeting : {L : Type 0} (seen : L → LinkView) (ns : List (Newcomer L)) (past : List Entry) → places seen (in_order 0 ns) ≡ greeting past → places seen ns ≡ greeting past
in_greeting seen ns past e = ap (places seen) (sym (append-nil ns)) ∙ e

module _ {L : Type 0} (seen : L → LinkView) (z : Setting) (start : Beginning) (h : List (Turn Entry)) (net : NetView) (ends : LinkEndsView L) (ws : List (DownPipe (EndWire L))) (legal : Legal z h) (closed : is_closed (past_of h) ≡ true) (stands : EndsStand seen z start h net ends) (wires : HasWires shown ws z (past_of h)) (shuts : AllByRecursion (λ x. CanShut x.wire) ws) where
  abbrev past : List Entry
  past = past_of h

  abbrev kept : LinksKept z start h net
  kept = stands.links.kept

  abbrev between : FinMap nat_cmp LinkView
  between = with_links seen net.back ends.newcomers

  abbrev back : FinMap nat_cmp LinkView
  back = with_wires between ws

  came : places seen ends.newcomers ≡ greeting past
  came = in_greeting seen ends.newcomers past stands.links.progressing.all

  greeted : AllByRecursion (WasGreeted seen start.origins z past) ends.newcomers
  greeted = stands.links.progressing.rest

  all_left : AllByRecursion (WireLeft start.origins z h) ws
  all_left = mapped_all _ (WireLeft start.origins z h) (λ x both. wire_left z start h net kept x both.0 both.1) ws (both_of _ _ ws (from_all _ ws wires.wires) shuts)

  taken : (x : DownPipe (EndWire L)) → has (down_ids ws) x.id ≡ true → has (untaken past) x.id ≡ true
  taken x e = ap (λ (xs : List ℕ). has xs x.id) (sym wires.pipes) ∙ e

  abbrev Came : ℕ → Type 0
  Came place = OneCame seen (WasGreeted seen start.origins z past) net.back ends.newcomers place × (get back place ≡ get between place)

  abbrev Wired : ℕ → Type 0
  Wired place = OneOf (WireLeft start.origins z h) between ws place

  pub record Rested (place : ℕ) : Type 0 where
    pub found : get back place ≡ get net.back place
    pub unwired : NoneOf between ws place
    pub unmet : has (greeting past) place ≡ false

  where_is : (place : ℕ) → Came place ⊎ Wired place ⊎ Rested place
  where_is place = go (look_wires (WireLeft start.origins z h) between ws place all_left) (look_links seen (WasGreeted seen start.origins z past) net.back ends.newcomers place greeted)
    where
      go : OneOf (WireLeft start.origins z h) between ws place ⊎ NoneOf between ws place → OneCame seen (WasGreeted seen start.origins z past) net.back ends.newcomers place ⊎ NoneCame seen (WasGreeted seen start.origins z past) net.back ends.newcomers place → Came place ⊎ Wired place ⊎ Rested place
      go (inl one) l = inr (inl one)
      go (inr nobody) (inl one) = inl (one, nobody.found)
      go (inr nobody) (inr none) = inr (inr (record { found = nobody.found ∙ none.found; unwired = nobody; unmet = ap (λ (xs : List ℕ). has xs place) (sym came) ∙ none.none }))

  met_now : (place : ℕ) → Came place → has (greeting past) place ≡ true
  met_now place c = ap (λ (xs : List ℕ). has xs place) (sym came) ∙ c.0.there

  wired_up : (place : ℕ) (x : Wired place) → place_of past x.x.id ≡ Some place
  wired_up place x = x.fact.came_up x.link x.link_is ∙ ap (λ (m : ℕ). Some m) x.place_is

  wired_left : (place : ℕ) (x : Wired place) → LeftBy start.origins z h x.x.id place (shut_link x.link)
  wired_left place x = subst (λ (m : ℕ). LeftBy start.origins z h x.x.id m (shut_link x.link)) x.place_is (x.fact.left_ x.link x.link_is)

  none_up : (p : ℕ) → IsTrue (has (up past) p) → ⊥
  none_up p e = is_true_false (has (up past) p) e (ap (λ (xs : List ℕ). has xs p) (closed_pipes z h legal closed))

  not_wired : (p place : ℕ) → Rested place → place_of past p ≡ Some place → (place ≡ lane_place → ⊥) → IsTrue (has (untaken past) p) → ⊥
  not_wired p place r e n on = go (at_id _ ws p (ap (λ (xs : List ℕ). has xs p) wires.pipes ∙ on) (both_of _ _ ws all_left r.unwired.none))
    where
      some_place : (a b : ℕ) → Some a ≡ Some b → a ≡ b
      some_place a b q = cc

      by : (x : DownPipe (EndWire L)) → x.id ≡ p → WireLeft start.origins z h x → (o : Option LinkView) → link_of x.wire ≡ o → IsElsewhere place o → ⊥
      by x same left None is other = n (some_place place lane_place (sym e ∙ (ap (place_of past) (sym same) ∙ left.lanes is)))
      by x same left (Some link) is other = other (some_place link.place place (sym (left.came_up link is) ∙ (ap (place_of past) same ∙ e)))

      go : (x : DownPipe (EndWire L)) × (x.id ≡ p) × (WireLeft start.origins z h x × IsElsewhere place (link_of x.wire)) → ⊥
      go (x, same, (left, other)) = by x same left (link_of x.wire) refl other

  -- ---- Pipes

  carried_at : (p place : ℕ) → place_of past p ≡ Some place → (place ≡ lane_place → ⊥) → IsBack back place (HasCarried start.origins z h p)
  carried_at p place e n = go (where_is place) (kept.carried p place e n)
    where
      off : has (greeting past) place ≡ false
      off = passed start.net.opened net.opened past p place kept.in_place kept.few e

      go : Came place ⊎ Wired place ⊎ Rested place → IsCarried start.origins z h net p place → IsBack back place (HasCarried start.origins z h p)
      go (inl c) k = absurd (is_true_false _ (met_now place c) off)
      go (inr (inl x)) k =
          let same : x.x.id ≡ p = up_once start.net.opened net.opened kept.few past x.x.id p place kept.in_place kept.over_links (wired_up place x) e n in
          (shut_link x.link, x.found, subst (λ (q : ℕ). HasCarried start.origins z h q (shut_link x.link)) same (wired_left place x).carried)
      go (inr (inr r)) (inl on) = absurd (none_up p on)
      go (inr (inr r)) (inr (inl on)) = absurd (not_wired p place r e n on)
      go (inr (inr r)) (inr (inr b)) = (b.0, r.found ∙ b.1, b.2.2)

  -- ---- All links

  abbrev IsRight : ℕ → LinkView → Type 0
  IsRight place link = IsShut place link × (length (ticks past) < 2 ^ 64 → IsAsked past place link)

  right_at : (place : ℕ) → start.net.opened ≤ place → place < net.opened → IsBack back place (IsRight place)
  right_at place low high = go (where_is place) (kept.somewhere place low high)
    where
      n : place ≡ lane_place → ⊥
      n lane = let f = kept.few (omega (arith, low, high)) in omega (arith, high, f, lane)

      pipe : Rested place → (p : ℕ) → place_of past p ≡ Some place → IsCarried start.origins z h net p place → IsBack back place (IsRight place)
      pipe r p e (inl on) = absurd (none_up p on)
      pipe r p e (inr (inl on)) = absurd (not_wired p place r e n on)
      pipe r p e (inr (inr b)) = (b.0, r.found ∙ b.1, (b.2.0, b.2.1))

      go : Came place ⊎ Wired place ⊎ Rested place → IsSomewhere net past place → IsBack back place (IsRight place)
      go (inl c) s =
          let n = c.0.n in
          (shut_of seen (WasGreeted seen start.origins z past) n, c.1 ∙ c.0.found, ((c.0.place_is, refl), λ few i st. let a = c.0.fact.progressing.asked i st in let same = ap (greeting_ticks past) c.0.place_is in omega (arith, a, same)))
      go (inr (inl x)) s = let l = wired_left place x in (shut_link x.link, x.found, ((l.place_is, refl), l.asked))
      go (inr (inr r)) (inl on) = absurd (is_true_false _ on r.unmet)
      go (inr (inr r)) (inr (inl p)) = pipe r p.0 p.1 (kept.carried p.0 place p.1 n)
      go (inr (inr r)) (inr (inr b)) = (b.0, r.found ∙ b.1, (b.2.0, λ few. b.2.1))

  undone_at : (place : ℕ) → has (greeting past) place ≡ true → IsBack back place (IsUndone (run_ways z.role start.origins) z h)
  undone_at place on = go (where_is place)
    where
      go : Came place ⊎ Wired place ⊎ Rested place → IsBack back place (IsUndone (run_ways z.role start.origins) z h)
      go (inl c) = (shut_of seen (WasGreeted seen start.origins z past) c.0.n, c.1 ∙ c.0.found, undone seen start.origins z past c.0.n c.0.fact h)
      go (inr (inl x)) = absurd (is_true_false _ on (passed start.net.opened net.opened past x.x.id place kept.in_place kept.few (wired_up place x)))
      go (inr (inr r)) = absurd (is_true_false _ on r.unmet)

  missed_at : (place : ℕ) → was_missed start.net.opened net.opened kept.few past place ≡ true → get back place ≡ get net.back place
  missed_at place m = go (where_is place) (missed_rests start.net.opened net.opened kept.few past place kept.in_place kept.over_links (missed_place start.net.opened net.opened kept.few past place kept.in_place m) m)
    where
      go : Came place ⊎ Wired place ⊎ Rested place → (has (greeting past) place ≡ false) × ((p : ℕ) → place_of past p ≡ Some place → ⊥) → get back place ≡ get net.back place
      go (inl c) r = absurd (is_true_false _ (met_now place c) r.0)
      go (inr (inl x)) r = absurd (r.1 x.x.id (wired_up place x))
      go (inr (inr s)) r = s.found

  others : KeepsOthers start.net (record net { back = back })
  others place out = go (where_is place)
    where
      outside : (start.net.opened ≤ place) × (place < net.opened) → (place < start.net.opened) ⊎ (net.opened ≤ place) → ⊥
      outside within (inl lt) = absurd (omega (arith, within.0, lt))
      outside within (inr le) = absurd (omega (arith, within.1, le))

      go : Came place ⊎ Wired place ⊎ Rested place → get back place ≡ get start.net.back place
      go (inl c) = absurd (outside (inside start.net.opened net.opened past place kept.in_place (met_now place c)) out)
      go (inr (inl x)) = absurd (outside (up_inside start.net.opened net.opened kept.few past x.x.id place kept.in_place kept.over_links (wired_up place x) (λ l. x.fact.no_lane x.link x.link_is (x.place_is ∙ l))) out)
      go (inr (inr r)) = r.found ∙ kept.others place out

  missed_still : (part : List Entry) → ((place : ℕ) → was_missed start.net.opened net.opened kept.few part place ≡ true → get back place ≡ get net.back place) → Each (HasCause (run_ways z.role start.origins) z h net.back) part → Each (HasCause (run_ways z.role start.origins) z h back) part
  missed_still [] same all = tt
  missed_still (NoUp place miss ∷ part) same all =
      let b = all.0 in
      let first : was_missed start.net.opened net.opened kept.few (NoUp place miss ∷ part) place ≡ true = rw (eq-eqb place place refl) refl in
      ((b.0, same place first ∙ b.1, b.2), missed_still part (λ other m. same other (or_more (place == other) m)) all.1)
    where
      or_more : (t : Bool) {b : Bool} → b ≡ true → (t || b) ≡ true
      or_more true e = refl
      or_more false e = e
  missed_still (e ∷ part) same all = (tt, missed_still part same all.1)

  limits_kept : (part : List Entry) → Each (IsNamed start.origins z) part → IsTrue (each keeps_limits part)
  limits_kept [] all = refl
  limits_kept (Up p place limit name ∷ part) all = both_true (one all.0) (limits_kept part all.1)
    where
      both_true : {a b : Bool} → a ≡ true → b ≡ true → (a && b) ≡ true
      both_true x y = rw (x, y) refl

      true_right : (b : Bool) → (b || true) ≡ true
      true_right true = refl
      true_right false = refl

      one : IsNamed start.origins z part (Up p place limit name) → keeps_limits part (Up p place limit name) ≡ true
      one (inl x) = let off : (place == lane_place) ≡ false = ne_eqb place lane_place x.0 in rw off refl
      one (inr x) = let on : (limit == no_limit) ≡ true = eq-eqb limit no_limit x.1 in rw on (true_right (not (place == lane_place)))
  limits_kept (e ∷ part) all = limits_kept part all.1

  records : IsTrue (each times_out_rightly past) → Records (run_ways z.role start.origins) z start.origins.limits start.net.opened net.opened back h
  records due = record {
    places = kept.in_place;
    few = kept.few;
    met = kept.met;
    given_back = λ place a b. let r = right_at place a b in (r.0, r.1, r.2.0);
    missed = missed_still past missed_at kept.missed;
    left_ = undone_at;
    came_up = λ p place e n lt. let c = carried_at p place e n in (c.0, c.1, (c.2.opened, (c.2.max, c.2.limit, c.2.limit_is, record { texts = c.2.carries; went_down = c.2.went_down })));
    lanes = limits_kept past kept.named;
    due = due;
  }

  whole : ClosedCleared past → AreWhole z (record net { back = back }) past
  whole cleared p place link down e n lt there framing under =
      let c = carried_at p place e n in
      let all : Some c.0 ≡ Some link = sym c.1 ∙ there in
      let same : c.0 ≡ link = some_link c.0 link all in
      subst (λ (l : LinkView). Told l.written (λ written. written ≡ stream_text framing (role_number z.role) (outs past p))) same (c.2.whole framing (ap (λ (l : LinkView). l.scheme) same ∙ under) (cleared p down))
    where
      some_link : (a b : LinkView) → Some a ≡ Some b → a ≡ b
      some_link a b q = cc

  all_back : LinksLeft z start h (record net { back = back })
  all_back = record {
    records = records;
    others = others;
    asked = λ few place a b. let r = right_at place a b in (r.0, r.1, r.2.1 few);
    read = λ p place e n lt. let c = carried_at p place e n in (c.0, c.1, c.2.read);
    whole = whole;
  }

  same_net : (a : NetView) → SameCounts net a → a.back ≡ back → record net { back = back } ≡ a
  same_net a counts b = made net.listens a.listens net.opened a.opened back a.back net.faults a.faults net.idles a.idles (sym counts.listens) (sym counts.opened) (sym b) (sym counts.faults) (sym counts.idles)
    where
      made : (l l' : _) (o o' : ℕ) (k k' : FinMap nat_cmp LinkView) (f f' i i' : ℕ) → l ≡ l' → o ≡ o' → k ≡ k' → f ≡ f' → i ≡ i'
          → ◌≡◌ {A = NetView} (record { listens = l; opened = o; back = k; faults = f; idles = i }) (record { listens = l'; opened = o'; back = k'; faults = f'; idles = i' })
      made l l' o o' k k' f f' i i' a b c d e = cc

  pub links_left : (net' : NetView) → SameCounts net net' → net'.back ≡ back → LinksLeft z start h net'
  links_left net' counts b = subst (LinksLeft z start h) (same_net net' counts b) all_back

-- ---- Before they are given back

pub newcomers_below : {L : Type 0} (seen : L → LinkView) (z : Setting) (start : Beginning) (h : List (Turn Entry)) (net : NetView) (ends : LinkEndsView L) → EndsStand seen z start h net ends → AllByRecursion (λ n. (seen n.opening.link).place < net.opened) ends.newcomers
newcomers_below seen z start h net ends stands =
    let kept = stands.links.kept in
    mapped_all (WasGreeted seen start.origins z (past_of h)) (λ n. (seen n.opening.link).place < net.opened) (λ n was. (met_inside start.net.opened net.opened (past_of h) (seen n.opening.link).place kept.in_place (ap is_some was.progressing.met)).1) ends.newcomers stands.links.progressing.rest

below : {L : Type 0} (z : Setting) (start : Beginning) (h : List (Turn Entry)) (net : NetView) → LinksKept z start h net → (x : DownPipe (EndWire L)) → WireLeft start.origins z h x → (o : Option LinkView) → link_of x.wire ≡ o → IsBelow net.opened o
below z start h net k x left None e = tt
below z start h net k x left (Some link) e = (up_inside start.net.opened net.opened k.few (past_of h) x.id link.place k.in_place k.over_links (left.came_up link e) (left.no_lane link e)).1

pub wires_below : {L : Type 0} (seen : L → LinkView) (z : Setting) (start : Beginning) (h : List (Turn Entry)) (net : NetView) (ends : LinkEndsView L) (ws : List (DownPipe (EndWire L))) → EndsStand seen z start h net ends → HasWires shown ws z (past_of h) → AreHandedOut net.opened ws
wires_below seen z start h net ends ws stands wires =
    let kept = stands.links.kept in
    mapped_all _ (λ x. CanShut x.wire → IsBelow net.opened (link_of x.wire)) (λ x down shuts. below z start h net kept x (wire_left z start h net kept x down shuts) (link_of x.wire) refl) ws (from_all _ ws wires.wires)
