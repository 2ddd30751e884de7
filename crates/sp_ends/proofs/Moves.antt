-- The four turns in which a link is moved: it is handed out, comes up, is missed, or is taken.
use Rattle.std.proofs.Common.{◌≡◌, refl, ap, sym, ◌∙◌, subst, List, [], ◌∷◌, ◌++◌, ℕ, ◌+◌, ◌≤◌, ◌<◌, Bool, true, false, cond, arith, eqb, Option, Some, None, inl, inr, eqb-true, eq-eqb}
use Rattle.std.specs.Prelude.{◌==◌, ◌⊎◌, is_some, nat_le, nat_lt}
use Rattle.std.specs.FinMap.{FinMap, get, insert, get-insert}
use Rattle.std.specs.Ordering.{nat_cmp, eq_by_cmp, is_eq}
use Rattle.std.specs.Cmp.{nat_cmp_total}
use Rattle.std.specs.declared.cmp.Ordering.TheVariants.{Less, Equal, Greater}
use Rattle.std.proofs.lemmas.Bool.{le-ltb, lt-ltb, le-leb, ne_eqb, cases_lt}
use Rattle.turn_lock.specs.declared.turn.Turn.{Turn}
use Rattle.sp_base.specs.Views.{LinkView, NetView}
use Rattle.sp_base.specs.Steps.{IsHandedOut, AfterGiveBack}
use Rattle.sp_base.specs.declared.addr.Scheme.{Scheme}
use Rattle.sp_history.specs.declared.entry.Entry.{Entry}
use Rattle.sp_history.specs.declared.entry.Entry.TheVariants.{Up, Met, NoUp, Taken}
use Rattle.sp_history.specs.declared.entry.Miss.{Miss}
use Rattle.sp_history.specs.declared.entry.WireNumbers.{WireNumbers}
use Rattle.sp_history.specs.declared.setting.Setting.{Setting}
use Rattle.sp_history.specs.Lists.{has}
use Rattle.sp_history.specs.Legal.{Legal}
use Rattle.sp_history.specs.Past.{past_of, up, ups, untaken, now}
use Rattle.sp_history.proofs.Backing.{legal_allowed}
use Rattle.sp_core.specs.Standing.{HasFirst}
use Rattle.sp_links.specs.Ways.{BeganSo}
use Rattle.sp_links.specs.Origins.{run_ways}
use Rattle.sp_ends.specs.LinkRecords.{lane_place, place_of, met_at, greeting, keeps_places, IsBack, MissedFor}
use Rattle.sp_ends.specs.LinkRecords.{KeepsOthers}
use Rattle.sp_ends.specs.LinkCounts.{IsAsked}
use Rattle.sp_ends.specs.EndViews.{Beginning}
use Rattle.sp_ends.specs.RunLinks.{IsNamed, HasCarried, IsShut, IsSomewhere, IsAskedIn, LinksKept}
use Rattle.sp_ends.proofs.LinkPlaces.{has_at, met_inside, unmet_others, others_missed, others_up, up_once, up_inside, passed, inside}
use Rattle.sp_ends.proofs.LaterEntries.{IsHeld, has_other, grown, or_true, numbered}
use Rattle.sp_ends.proofs.LinksStay.{legal_rest}
use Rattle.sp_ends.proofs.LinkSteps.{stepped, held_after, carried_after, asked_in_after, IsBackAfter}

-- ---- The links that are back

same_number : (n : ℕ) → eq_by_cmp nat_cmp n n ≡ true
same_number n =
    ap (λ b. is_eq (cond b Less (cond (eqb n n) Equal Greater))) (le-ltb n n (omega arith))
    ∙ ap (λ b. is_eq (cond b Equal Greater)) (eq-eqb n n refl)

other_number : (q n : ℕ) → ¬ (q ≡ n) → eq_by_cmp nat_cmp q n ≡ false
other_number q n ne = elim (cases_lt q n) [
  | inl lt ↦ ap (λ b. is_eq (cond b Less (cond (eqb q n) Equal Greater))) (lt-ltb q n lt)
  | inr le ↦
      ap (λ b. is_eq (cond b Less (cond (eqb q n) Equal Greater))) (le-ltb q n le)
      ∙ ap (λ b. is_eq (cond b Equal Greater)) (ne_eqb q n ne)
]

pub there : (m : FinMap nat_cmp LinkView) (k : ℕ) (v : LinkView) → get (insert m k v) k ≡ Some v
there m k v = get-insert nat_cmp_total m k v k ∙ ap (λ b. cond b (Some v) (get m k)) (same_number k)

pub elsewhere : (m : FinMap nat_cmp LinkView) (k : ℕ) (v : LinkView) (q : ℕ) → (q ≡ k → ⊥) → get (insert m k v) q ≡ get m q
elsewhere m k v q ne = get-insert nat_cmp_total m k v q ∙ ap (λ b. cond b (Some v) (get m q)) (other_number q k ne)

pub unequal : (a b : ℕ) → (a == b) ≡ false → a ≡ b → ⊥
unequal a b e same = let t : (a == b) ≡ true = eq-eqb a b same in cc

-- ---- Handed out

module _ (z : Setting) (start : Beginning) (net net' : NetView) (h : List (Turn Entry)) (t : Turn Entry) (link : LinkView) (wanted : Option Scheme) (o : IsHandedOut link wanted net net') (first : HasFirst (Met link.place) t) (l : Legal z (h ++ t ∷ [])) (k : LinksKept z start h net) where
  pub unmet_yet : met_at (past_of h) link.place ≡ None
  unmet_yet = go (met_at (past_of h) link.place) refl
    where
      go : (m : Option ℕ) → met_at (past_of h) link.place ≡ m → met_at (past_of h) link.place ≡ None
      go None e = e
      go (Some n) e = let b = met_inside start.net.opened net.opened (past_of h) link.place k.in_place (rw e refl) in let p = o.fresh.place in absurd (omega (arith, b.1, p))

  same_back : (q : ℕ) → get net'.back q ≡ get net.back q
  same_back q = ap (λ (b : FinMap nat_cmp LinkView). get b q) o.back

  somewhere_met : (place : ℕ) → start.net.opened ≤ place → place < net'.opened → IsSomewhere net' (Met link.place ∷ past_of h) place
  somewhere_met place a b = go (link.place == place) refl
    where
      old : IsSomewhere net (past_of h) place → IsSomewhere net' (Met link.place ∷ past_of h) place
      old (inl g) = inl (grown (greeting (past_of h)) link.place place g)
      old (inr (inl p)) = inr (inl p)
      old (inr (inr x)) = inr (inr (x.0, same_back place ∙ x.1, x.2))

      go : (u : Bool) → (link.place == place) ≡ u → IsSomewhere net' (Met link.place ∷ past_of h) place
      go true e = let same : link.place ≡ place = eqb-true link.place place e in inl (subst (λ (q : ℕ). has (greeting (past_of h) ++ link.place ∷ []) q ≡ true) same (has_at (greeting (past_of h)) [] link.place))
      go false e = let n = unequal link.place place e in let p = o.fresh.place in let m = o.opened in old (k.somewhere place a (omega (arith, b, n, p, m)))

  met_met : (place : ℕ) → start.net.opened ≤ place → place < net'.opened → is_some (met_at (Met link.place ∷ past_of h) place) ≡ true
  met_met place a b = go (link.place == place) refl
    where
      go : (u : Bool) → (link.place == place) ≡ u → is_some (cond u (Some (now (past_of h))) (met_at (past_of h) place)) ≡ true
      go true e = refl
      go false e = let n = unequal link.place place e in let p = o.fresh.place in let m = o.opened in k.met place a (omega (arith, b, n, p, m))

  others_met : KeepsOthers start.net net'
  others_met place (inl x) = same_back place ∙ k.others place (inl x)
  others_met place (inr x) = let m = o.opened in same_back place ∙ k.others place (inr (omega (arith, x, m)))

  keeps_met : keeps_places start.net.opened net'.opened (past_of h) (Met link.place) ≡ true
  keeps_met =
      let p = o.fresh.place in let m = o.opened in let low = k.opened in
      let a : nat_le start.net.opened link.place ≡ true = le-leb start.net.opened link.place (omega (arith, p, low)) in
      let b : nat_lt link.place net'.opened ≡ true = lt-ltb link.place net'.opened (omega (arith, p, m)) in rw (a, b, unmet_yet) refl

  pub kept_met : LinksKept z start (h ++ t ∷ []) net'
  kept_met =
      stepped z start net net' h t (Met link.place) first refl l k (record {
        here = link.place;
        opened = let a = k.opened in let m = o.opened in omega (arith, a, m);
        more = let m = o.opened in omega (arith, m);
        few = λ x. let f = o.fresh.few in let p = o.fresh.place in let m = o.opened in omega (arith, f, p, m);
        keeps = keeps_met;
        over = refl;
        name = tt;
        cause = tt;
        met = met_met;
        somewhere = somewhere_met;
        stays = λ q n. same_back q;
        others_missed = unmet_others start.net.opened net.opened (past_of h) link.place k.in_place unmet_yet;
        carried = λ p place is n. held_after z start net net' h t (Met link.place) first refl l k p place (λ x. x) (same_back place) is n;
        others = others_met;
      })

-- ---- Up

module _ (z : Setting) (start : Beginning) (net : NetView) (h : List (Turn Entry)) (t : Turn Entry) (p place limit : ℕ) (name : WireNumbers) (next : p ≡ ups (past_of h) + 1) (waits : has (greeting (past_of h)) place ≡ true) (named : IsNamed start.origins z (past_of h) (Up p place limit name)) (first : HasFirst (Up p place limit name) t) (l : Legal z (h ++ t ∷ [])) (k : LinksKept z start h net) where
  not_yet : (q other : ℕ) → place_of (past_of h) q ≡ Some other → (p == q) ≡ true → ⊥
  not_yet q other is e = let n = numbered z (past_of h) q other (legal_allowed z h (legal_rest z h (t ∷ []) l).0) is in let same : p ≡ q = eqb-true p q e in omega (arith, n, same, next)

  place_still : (q other : ℕ) → place_of (past_of h) q ≡ Some other → place_of (Up p place limit name ∷ past_of h) q ≡ Some other
  place_still q other is = go (p == q) refl
    where
      go : (u : Bool) → (p == q) ≡ u → cond u (Some place) (place_of (past_of h) q) ≡ Some other
      go true e = absurd (not_yet q other is e)
      go false e = is

  up_here : place_of (Up p place limit name ∷ past_of h) p ≡ Some place
  up_here = rw (eq-eqb p p refl) refl

  somewhere_up : (q : ℕ) → IsSomewhere net (past_of h) q → IsSomewhere net (Up p place limit name ∷ past_of h) q
  somewhere_up q (inr (inl x)) = inr (inl (x.0, place_still x.0 q x.1))
  somewhere_up q (inr (inr x)) = inr (inr x)
  somewhere_up q (inl g) = go (place == q) refl
    where
      go : (u : Bool) → (place == q) ≡ u → IsSomewhere net (Up p place limit name ∷ past_of h) q
      go true e = let same : place ≡ q = eqb-true place q e in inr (inl (p, subst (λ (m : ℕ). place_of (Up p place limit name ∷ past_of h) p ≡ Some m) same up_here))
      go false e = inl (has_other (greeting (past_of h)) place q e ∙ g)

  carried_up : (q other : ℕ) → place_of (Up p place limit name ∷ past_of h) q ≡ Some other → (other ≡ lane_place → ⊥) → IsHeld (Up p place limit name ∷ past_of h) q ⊎ IsBackAfter z start net net h t (Up p place limit name) first refl l k q other
  carried_up q other is n = go (p == q) refl is
    where
      still : IsHeld (past_of h) q → IsHeld (Up p place limit name ∷ past_of h) q
      still (inl x) = inl (grown (up (past_of h)) p q x)
      still (inr x) = inr x

      go : (u : Bool) → (p == q) ≡ u → cond u (Some place) (place_of (past_of h) q) ≡ Some other → IsHeld (Up p place limit name ∷ past_of h) q ⊎ IsBackAfter z start net net h t (Up p place limit name) first refl l k q other
      go true e x = let same : p ≡ q = eqb-true p q e in inl (inl (subst (λ (m : ℕ). has (up (past_of h) ++ p ∷ []) m ≡ true) same (has_at (up (past_of h)) [] p)))
      go false e x = held_after z start net net h t (Up p place limit name) first refl l k q other still refl x n

  pub kept_up : LinksKept z start (h ++ t ∷ []) net
  kept_up =
      stepped z start net net h t (Up p place limit name) first refl l k (record {
        here = place;
        opened = k.opened;
        more = omega arith;
        few = k.few;
        keeps = rw waits (or_true (place == lane_place));
        over = rw waits (or_true (place == lane_place));
        name = named;
        cause = tt;
        met = k.met;
        somewhere = λ q a b. somewhere_up q (k.somewhere q a b);
        stays = λ q n. refl;
        others_missed = others_missed start.net.opened net.opened (past_of h) place k.in_place waits;
        carried = carried_up;
        others = k.others;
      })

-- ---- Missed

module _ (z : Setting) (start : Beginning) (net net' : NetView) (h : List (Turn Entry)) (t : Turn Entry) (link : LinkView) (miss : Miss) (back : AfterGiveBack link net net') (waits : has (greeting (past_of h)) link.place ≡ true) (shut : link.is_open ≡ false)
    (asked : IsAsked (past_of h) link.place link) (cause : BeganSo (run_ways z.role start.origins) link (λ way. MissedFor (run_ways z.role start.origins) z (h ++ t ∷ []) (past_of h) link.place miss link way)) (first : HasFirst (NoUp link.place miss) t) (l : Legal z (h ++ t ∷ [])) (k : LinksKept z start h net) where
  bound : (start.net.opened ≤ link.place) × (link.place < net.opened)
  bound = inside start.net.opened net.opened (past_of h) link.place k.in_place waits

  gave : get net'.back link.place ≡ Some link
  gave = ap (λ (b : FinMap nat_cmp LinkView). get b link.place) back.back ∙ there net.back link.place link

  others_back : (q : ℕ) → (q ≡ link.place → ⊥) → get net'.back q ≡ get net.back q
  others_back q n = ap (λ (b : FinMap nat_cmp LinkView). get b q) back.back ∙ elsewhere net.back link.place link q n

  somewhere_missed : (q : ℕ) → IsSomewhere net (past_of h) q → IsSomewhere net' (NoUp link.place miss ∷ past_of h) q
  somewhere_missed q s = go (link.place == q) refl s
    where
      Here : ℕ → Type 0
      Here m = IsBack net'.back m (λ x. IsShut m x × IsAsked (NoUp link.place miss ∷ past_of h) m x)

      go : (u : Bool) → (link.place == q) ≡ u → IsSomewhere net (past_of h) q → IsSomewhere net' (NoUp link.place miss ∷ past_of h) q
      go true e s = let same : link.place ≡ q = eqb-true link.place q e in inr (inr (subst Here same (link, gave, ((refl, shut), asked))))
      go false e (inl g) = inl (has_other (greeting (past_of h)) link.place q e ∙ g)
      go false e (inr (inl x)) = inr (inl x)
      go false e (inr (inr x)) = inr (inr (x.0, others_back q (λ a. unequal link.place q e (sym a)) ∙ x.1, x.2))

  not_here : (p q : ℕ) → place_of (past_of h) p ≡ Some q → q ≡ link.place → ⊥
  not_here p q is e = let no : has (greeting (past_of h)) q ≡ false = passed start.net.opened net.opened (past_of h) p q k.in_place k.few is in let no' : has (greeting (past_of h)) link.place ≡ false = subst (λ (m : ℕ). has (greeting (past_of h)) m ≡ false) e no in cc

  others_missed_ : KeepsOthers start.net net'
  others_missed_ q (inl x) = let b = bound in others_back q (λ e. omega (arith, x, b.0, e)) ∙ k.others q (inl x)
  others_missed_ q (inr x) = let b = bound in let m = back.opened in others_back q (λ e. omega (arith, x, b.1, m, e)) ∙ k.others q (inr (omega (arith, x, m)))

  pub kept_missed : LinksKept z start (h ++ t ∷ []) net'
  kept_missed =
      stepped z start net net' h t (NoUp link.place miss) first refl l k (record {
        here = link.place;
        opened = let m = back.opened in let a = k.opened in omega (arith, m, a);
        more = let m = back.opened in omega (arith, m);
        few = λ x. let m = back.opened in let f = k.few (omega (arith, x, m)) in omega (arith, f, m);
        keeps = waits;
        over = refl;
        name = tt;
        cause = (link, gave, cause);
        met = λ q a b. let m = back.opened in k.met q a (omega (arith, b, m));
        somewhere = λ q a b. let m = back.opened in somewhere_missed q (k.somewhere q a (omega (arith, b, m)));
        stays = others_back;
        others_missed = others_missed start.net.opened net.opened (past_of h) link.place k.in_place waits;
        carried = λ p q is n. held_after z start net net' h t (NoUp link.place miss) first refl l k p q (λ x. x) (others_back q (not_here p q is)) is n;
        others = others_missed_;
      })

-- ---- Taken

module _ (z : Setting) (start : Beginning) (net net' : NetView) (h : List (Turn Entry)) (t : Turn Entry) (p : ℕ) (link : LinkView) (back : AfterGiveBack link net net') (is_place : place_of (past_of h) p ≡ Some link.place) (no_lane : link.place ≡ lane_place → ⊥) (off : has (up (past_of h)) p ≡ false) (shut : link.is_open ≡ false)
    (asked : IsAskedIn (past_of h) link.place link) (carries : HasCarried start.origins z h p link) (first : HasFirst (Taken p) t) (l : Legal z (h ++ t ∷ [])) (k : LinksKept z start h net) where
  bound_taken : (start.net.opened ≤ link.place) × (link.place < net.opened)
  bound_taken = up_inside start.net.opened net.opened k.few (past_of h) p link.place k.in_place k.over_links is_place no_lane

  gave_taken : get net'.back link.place ≡ Some link
  gave_taken = ap (λ (b : FinMap nat_cmp LinkView). get b link.place) back.back ∙ there net.back link.place link

  others_taken : (q : ℕ) → (q ≡ link.place → ⊥) → get net'.back q ≡ get net.back q
  others_taken q n = ap (λ (b : FinMap nat_cmp LinkView). get b q) back.back ∙ elsewhere net.back link.place link q n

  somewhere_taken : (q : ℕ) → IsSomewhere net (past_of h) q → IsSomewhere net' (Taken p ∷ past_of h) q
  somewhere_taken q (inl g) = inl g
  somewhere_taken q (inr (inl x)) = inr (inl x)
  somewhere_taken q (inr (inr x)) = go (link.place == q) refl
    where
      go : (u : Bool) → (link.place == q) ≡ u → IsSomewhere net' (Taken p ∷ past_of h) q
      go true e = let same : link.place ≡ q = eqb-true link.place q e in inr (inl (p, subst (λ (m : ℕ). place_of (past_of h) p ≡ Some m) same is_place))
      go false e = inr (inr (x.0, others_taken q (λ a. unequal link.place q e (sym a)) ∙ x.1, x.2))

  abbrev After : ℕ → ℕ → Type 0
  After q other = IsHeld (Taken p ∷ past_of h) q ⊎ IsBackAfter z start net net' h t (Taken p) first refl l k q other

  here_taken : After p link.place
  here_taken = inr (link, gave_taken, ((refl, shut), asked_in_after z start net net' h t (Taken p) first refl l k link.place link asked, carried_after z start net net' h t (Taken p) first refl l k p link.place link is_place off carries))

  carried_taken : (q other : ℕ) → place_of (past_of h) q ≡ Some other → (other ≡ lane_place → ⊥) → After q other
  carried_taken q other is n = go (p == q) refl
    where
      still : (p == q) ≡ false → IsHeld (past_of h) q → IsHeld (Taken p ∷ past_of h) q
      still e (inl x) = inl x
      still e (inr x) = inr (has_other (untaken (past_of h)) p q e ∙ x)

      apart : (p == q) ≡ false → other ≡ link.place → ⊥
      apart e same = unequal p q e (up_once start.net.opened net.opened k.few (past_of h) p q link.place k.in_place k.over_links is_place (subst (λ (m : ℕ). place_of (past_of h) q ≡ Some m) same is) no_lane)

      some_same : (a b : ℕ) → Some a ≡ Some b → a ≡ b
      some_same a b e = cc

      go : (u : Bool) → (p == q) ≡ u → After q other
      go true e = let same : p ≡ q = eqb-true p q e in let place_same : link.place ≡ other = some_same link.place other (sym is_place ∙ (ap (λ (m : ℕ). place_of (past_of h) m) same ∙ is)) in subst (λ (m : ℕ). After m other) same (subst (λ (m : ℕ). After p m) place_same here_taken)
      go false e = held_after z start net net' h t (Taken p) first refl l k q other (still e) (others_taken other (apart e)) is n

  outside_taken : KeepsOthers start.net net'
  outside_taken q (inl x) = let b = bound_taken in others_taken q (λ e. omega (arith, x, b.0, e)) ∙ k.others q (inl x)
  outside_taken q (inr x) = let b = bound_taken in let m = back.opened in others_taken q (λ e. omega (arith, x, b.1, m, e)) ∙ k.others q (inr (omega (arith, x, m)))

  pub kept_taken : LinksKept z start (h ++ t ∷ []) net'
  kept_taken =
      stepped z start net net' h t (Taken p) first refl l k (record {
        here = link.place;
        opened = let m = back.opened in let a = k.opened in omega (arith, m, a);
        more = let m = back.opened in omega (arith, m);
        few = λ x. let m = back.opened in let f = k.few (omega (arith, x, m)) in omega (arith, f, m);
        keeps = refl;
        over = refl;
        name = tt;
        cause = tt;
        met = λ q a b. let m = back.opened in k.met q a (omega (arith, b, m));
        somewhere = λ q a b. let m = back.opened in somewhere_taken q (k.somewhere q a (omega (arith, b, m)));
        stays = others_taken;
        others_missed = others_up start.net.opened net.opened k.few (past_of h) p link.place k.in_place k.over_links is_place no_lane;
        carried = carried_taken;
        others = outside_taken;
      })

-- ---- A lane is taken

module _ (z : Setting) (start : Beginning) (net : NetView) (h : List (Turn Entry)) (t : Turn Entry) (p : ℕ) (is_place : place_of (past_of h) p ≡ Some lane_place) (first : HasFirst (Taken p) t) (l : Legal z (h ++ t ∷ [])) (k : LinksKept z start h net) where
  unmet_lane : met_at (past_of h) lane_place ≡ None
  unmet_lane = go (met_at (past_of h) lane_place) refl
    where
      go : (m : Option ℕ) → met_at (past_of h) lane_place ≡ m → met_at (past_of h) lane_place ≡ None
      go None e = e
      go (Some n) e = let b = met_inside start.net.opened net.opened (past_of h) lane_place k.in_place (rw e refl) in let f = k.few (omega (arith, b.0, b.1)) in absurd (omega (arith, b.1, f))

  carried_on : (q other : ℕ) → place_of (past_of h) q ≡ Some other → (other ≡ lane_place → ⊥) → IsHeld (Taken p ∷ past_of h) q ⊎ IsBackAfter z start net net h t (Taken p) first refl l k q other
  carried_on q other is n = go (p == q) refl
    where
      some_same : (a b : ℕ) → Some a ≡ Some b → a ≡ b
      some_same a b e = cc

      still : (p == q) ≡ false → IsHeld (past_of h) q → IsHeld (Taken p ∷ past_of h) q
      still e (inl x) = inl x
      still e (inr x) = inr (has_other (untaken (past_of h)) p q e ∙ x)

      go : (u : Bool) → (p == q) ≡ u → IsHeld (Taken p ∷ past_of h) q ⊎ IsBackAfter z start net net h t (Taken p) first refl l k q other
      go true e = let same : p ≡ q = eqb-true p q e in absurd (n (some_same other lane_place (sym is ∙ (ap (λ (m : ℕ). place_of (past_of h) m) (sym same) ∙ is_place))))
      go false e = held_after z start net net h t (Taken p) first refl l k q other (still e) refl is n

  pub kept_lane_taken : LinksKept z start (h ++ t ∷ []) net
  kept_lane_taken =
      stepped z start net net h t (Taken p) first refl l k (record {
        here = lane_place;
        opened = k.opened;
        more = omega arith;
        few = k.few;
        keeps = refl;
        over = refl;
        name = tt;
        cause = tt;
        met = k.met;
        somewhere = k.somewhere;
        stays = λ q n. refl;
        others_missed = unmet_others start.net.opened net.opened (past_of h) lane_place k.in_place unmet_lane;
        carried = carried_on;
        others = k.others;
      })
