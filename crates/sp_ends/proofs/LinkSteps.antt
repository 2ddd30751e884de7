-- What holds of the links of a run after a turn in which one link is handed out, comes up, is missed or is taken.
use Rattle.std.proofs.Common.{◌≡◌, refl, ap, sym, ◌∙◌, subst, List, [], ◌∷◌, ◌++◌, ℕ, ◌≤◌, ◌<◌, Bool, true, false, arith, length, Some, inl, inr}
use Rattle.std.specs.Prelude.{◌⊎◌, ◌^◌, IsTrue, is_some, is_none, nat_le, nat_lt, ◌&&◌}
use Rattle.std.proofs.lemmas.Bool.Decides.{nat_tests}
use Rattle.std.specs.FinMap.{get}
use Rattle.turn_lock.specs.declared.turn.Turn.{Turn}
use Rattle.sp_base.specs.Views.{LinkView, NetView}
use Rattle.sp_history.specs.declared.entry.Entry.{Entry}
use Rattle.sp_history.specs.declared.entry.Entry.TheVariants.{Up, Met, NoUp, Tick}
use Rattle.sp_history.specs.declared.setting.Setting.{Setting}
use Rattle.sp_history.specs.Changes.{none_of}
use Rattle.sp_history.specs.Lists.{has}
use Rattle.sp_history.specs.Legal.{Legal, last_is_malformed}
use Rattle.sp_history.specs.Past.{onto, past_from, past_of, up, frames, is_cleared}
use Rattle.sp_history.specs.Found.{ticks, SameOfPipe}
use Rattle.sp_history.proofs.Appending.{past_of-append}
use Rattle.sp_history.proofs.Backing.{legal_allowed}
use Rattle.sp_history.proofs.SilentPipes.{down_is_silent}
use Rattle.sp_core.specs.Standing.{HasFirst}
use Rattle.sp_links.specs.Origins.{run_ways}
use Rattle.sp_ends.specs.Entries.{each, is_tick}
use Rattle.sp_ends.specs.LinkRecords.{lane_place, place_of, met_at, greeting, keeps_places, Each, HasCause, IsBack}
use Rattle.sp_ends.specs.LinkRecords.{KeepsOthers}
use Rattle.sp_ends.specs.LinkCounts.{greeting_ticks, ticks_where, IsAsked}
use Rattle.sp_ends.specs.Entries.{moves_ends}
use Rattle.sp_ends.specs.EndViews.{Beginning}
use Rattle.sp_ends.specs.RunLinks.{is_over_link, IsNamed, HasCarried, IsShut, IsSomewhere, IsAskedIn, IsCarried, LinksKept}
use Rattle.sp_ends.proofs.LinkPlaces.{left_of, right_of, IsOther}
use Rattle.sp_ends.proofs.LeavingCleared.{stays_cleared}
use Rattle.sp_ends.proofs.LaterEntries.{entries_leave, entries_keep, moves_links, IsHeld, held_on, numbered, malformed_same, each_mapped}
use Rattle.sp_ends.proofs.LinksStay.{same_greeting, same_met, same_place, free_place, free_over, free_name, free_cause, carried_over, cause_still, legal_rest}
use Rattle.sp_ends.proofs.EndsStay.{settles, links_of, none_sub, same_ticks, same_where}

-- ---- Entries

tick_leaves : (test : List Entry → Bool) (e : Entry) (past : List Entry) → is_tick e ≡ false → ticks_where test (e ∷ past) ≡ ticks_where test past
tick_leaves test (Tick t due) past h = cc
tick_leaves test _ past h = refl

ticks_leave : (e : Entry) (past : List Entry) → is_tick e ≡ false → ticks (e ∷ past) ≡ ticks past
ticks_leave (Tick t due) past h = cc
ticks_leave _ past h = refl

wider : (first less more : ℕ) → less ≤ more → (past : List Entry) (e : Entry) → keeps_places first less past e ≡ true → keeps_places first more past e ≡ true
wider first less more l past (Met place) h = go (nat_le first place) (nat_lt place less) refl (is_none (met_at past place)) h
  where
    go : (a b : Bool) → nat_lt place less ≡ b → (c : Bool) → ((a && b) && c) ≡ true → ((a && nat_lt place more) && c) ≡ true
    go true true e true n = let m : nat_lt place more ≡ true = grind (arith, nat_tests) in rw m refl
    go true true e false n = cc
    go true false e c n = cc
    go false b e c n = cc
wider first less more l past (Up p place limit name) h = h
wider first less more l past (NoUp place miss) h = h
wider first less more l past _ h = refl

each_wider : (first less more : ℕ) → less ≤ more → (past : List Entry) → IsTrue (each (keeps_places first less) past) → IsTrue (each (keeps_places first more) past)
each_wider first less more l [] h = refl
each_wider first less more l (e ∷ past) h =
    let a = wider first less more l past e (left_of (keeps_places first less past e) (each (keeps_places first less) past) h) in
    let b = each_wider first less more l past (right_of (keeps_places first less past e) (each (keeps_places first less) past) h) in rw (a, b) refl

-- ---- One turn

module _ (z : Setting) (start : Beginning) (net net' : NetView) (h : List (Turn Entry)) (t : Turn Entry) (e : Entry) (first : HasFirst e t) (silent_tick : is_tick e ≡ false) (l : Legal z (h ++ t ∷ [])) (k : LinksKept z start h net) where
  none_late : none_of moves_ends first.late ≡ true
  none_late = settles first.late first.late_settles

  none_links : none_of moves_links first.late ≡ true
  none_links = none_sub moves_ends moves_links links_of first.late none_late

  pub past_is : past_of (h ++ t ∷ []) ≡ onto first.late (e ∷ past_of h)
  past_is = past_of-append h t ∙ ap (λ (es : List Entry). onto es (past_of h)) first.entries

  after : {A : Type 0} (f : List Entry → A) → ((d : Entry) (past : List Entry) → moves_links d ≡ false → f (d ∷ past) ≡ f past) → f (past_of (h ++ t ∷ [])) ≡ f (e ∷ past_of h)
  after f step = ap f past_is ∙ entries_leave moves_links f step first.late (e ∷ past_of h) none_links

  pub greeting_after : greeting (past_of (h ++ t ∷ [])) ≡ greeting (e ∷ past_of h)
  greeting_after = after greeting same_greeting

  pub met_after : (place : ℕ) → met_at (past_of (h ++ t ∷ [])) place ≡ met_at (e ∷ past_of h) place
  met_after place = after (λ (p : List Entry). met_at p place) (same_met place)

  pub place_after : (p : ℕ) → place_of (past_of (h ++ t ∷ [])) p ≡ place_of (e ∷ past_of h) p
  place_after p = after (λ (x : List Entry). place_of x p) (same_place p)

  ends_after : {A : Type 0} (f : List Entry → A) → ((d : Entry) (past : List Entry) → moves_ends d ≡ false → f (d ∷ past) ≡ f past) → f (past_of (h ++ t ∷ [])) ≡ f (e ∷ past_of h)
  ends_after f step = ap f past_is ∙ entries_leave moves_ends f step first.late (e ∷ past_of h) none_late

  pub where_after : (test : List Entry → Bool) → ticks_where test (past_of (h ++ t ∷ [])) ≡ ticks_where test (past_of h)
  where_after test = ends_after (ticks_where test) (same_where test) ∙ tick_leaves test e (past_of h) silent_tick

  pub ticks_after : ticks (past_of (h ++ t ∷ [])) ≡ ticks (past_of h)
  ticks_after = ends_after ticks same_ticks ∙ ticks_leave e (past_of h) silent_tick

  pub greeting_ticks_after : (place : ℕ) → greeting_ticks (past_of (h ++ t ∷ [])) place ≡ greeting_ticks (past_of h) place
  greeting_ticks_after place = where_after (λ before. has (greeting before) place)

  asked_after : (place : ℕ) (link : LinkView) → IsAsked (past_of h) place link → IsAsked (past_of (h ++ t ∷ [])) place link
  asked_after place link a i s = let b = a i s in let c = greeting_ticks_after place in omega (arith, b, c)

  pub asked_in_after : (place : ℕ) (link : LinkView) → IsAskedIn (past_of h) place link → IsAskedIn (past_of (h ++ t ∷ [])) place link
  asked_in_after place link a few = asked_after place link (a (subst (λ (ts : List ℕ). length ts < 2 ^ 64) ticks_after few))

  -- a link that is back, with what its pipe carried
  abbrev pub IsBackAfter : ℕ → ℕ → Type 0
  IsBackAfter p place = IsBack net'.back place (λ link. IsShut place link × IsAskedIn (past_of (h ++ t ∷ [])) place link × HasCarried start.origins z (h ++ t ∷ []) p link)

  -- a pipe that is down is no longer changed
  pub carried_after : (p place : ℕ) (link : LinkView) → place_of (past_of h) p ≡ Some place → has (up (past_of h)) p ≡ false → HasCarried start.origins z h p link → HasCarried start.origins z (h ++ t ∷ []) p link
  carried_after p place link is off c =
      let m = (legal_rest z h (t ∷ []) l).1 in
      let more : past_of (h ++ t ∷ []) ≡ past_from (past_of h) (t ∷ []) = past_of-append h t in
      let s = subst (λ (past : List Entry). SameOfPipe p (past_of h) past) (sym more) (down_is_silent z (past_of h) (t ∷ []) p m (numbered z (past_of h) p place (legal_allowed z h (legal_rest z h (t ∷ []) l).0) is) off) in
      let bad : last_is_malformed z (past_of (h ++ t ∷ [])) p ≡ last_is_malformed z (past_of h) p = ap (λ (x : List Entry). last_is_malformed z x p) more ∙ malformed_same z p (t ∷ []) (past_of h) (subst (λ (x : List Entry). frames x p ≡ frames (past_of h) p) more s.frames) in
      let cl : is_cleared (past_of (h ++ t ∷ [])) p ≡ is_cleared (past_of h) p = ap (λ (x : List Entry). is_cleared x p) more ∙ stays_cleared z (past_of h) (t ∷ []) p m (numbered z (past_of h) p place (legal_allowed z h (legal_rest z h (t ∷ []) l).0) is) off in
      carried_over z h (t ∷ []) start.origins p link s bad cl c

  -- so far it is held, or back
  pub held_after : (p place : ℕ) → (IsHeld (past_of h) p → IsHeld (e ∷ past_of h) p) → get net'.back place ≡ get net.back place → place_of (past_of h) p ≡ Some place → (place ≡ lane_place → ⊥) → IsHeld (e ∷ past_of h) p ⊎ IsBackAfter p place
  held_after p place still same is n = go (k.carried p place is n)
    where
      go : IsCarried start.origins z h net p place → IsHeld (e ∷ past_of h) p ⊎ IsBackAfter p place
      go (inl x) = inl (still (inl x))
      go (inr (inl x)) = inl (still (inr x))
      go (inr (inr b)) = turned (has (up (past_of h)) p) refl
        where
          turned : (u : Bool) → has (up (past_of h)) p ≡ u → IsHeld (e ∷ past_of h) p ⊎ IsBackAfter p place
          turned true on = inl (still (inl on))
          turned false off = inr (b.0, same ∙ b.1, (b.2.0, asked_in_after place b.0 b.2.1, carried_after p place b.0 is off b.2.2))

  -- what an entry has to bring with it; `here` is the place of a link that comes back in the turn
  pub record Steps : Type 0 where
    pub here : ℕ
    pub opened : start.net.opened ≤ net'.opened
    pub more : net.opened ≤ net'.opened
    pub few : start.net.opened < net'.opened → net'.opened ≤ lane_place
    pub keeps : keeps_places start.net.opened net'.opened (past_of h) e ≡ true
    pub over : is_over_link (past_of h) e ≡ true
    pub name : IsNamed start.origins z (past_of h) e
    pub cause : HasCause (run_ways z.role start.origins) z (h ++ t ∷ []) net'.back (past_of h) e
    pub met : (place : ℕ) → start.net.opened ≤ place → place < net'.opened → is_some (met_at (e ∷ past_of h) place) ≡ true
    pub somewhere : (place : ℕ) → start.net.opened ≤ place → place < net'.opened → IsSomewhere net' (e ∷ past_of h) place
    pub stays : (place : ℕ) → (place ≡ here → ⊥) → get net'.back place ≡ get net.back place
    pub others_missed : Each (IsOther start.net.opened net'.opened here) (past_of h)
    pub carried : (p place : ℕ) → place_of (e ∷ past_of h) p ≡ Some place → (place ≡ lane_place → ⊥) → IsHeld (e ∷ past_of h) p ⊎ IsBackAfter p place
    pub others : KeepsOthers start.net net'

  module _ (s : Steps) where
    cause_here : (past : List Entry) (d : Entry) → HasCause (run_ways z.role start.origins) z (h ++ t ∷ []) net.back past d × IsOther start.net.opened net'.opened s.here past d → HasCause (run_ways z.role start.origins) z (h ++ t ∷ []) net'.back past d
    cause_here past (NoUp place miss) (c, o) = (c.0, s.stays place o ∙ c.1, c.2)
    cause_here past _ x = tt

    both_each : (A B : List Entry → Entry → Type 0) (past : List Entry) → Each A past → Each B past → Each (λ q d. A q d × B q d) past
    both_each A B [] a b = tt
    both_each A B (d ∷ past) a b = ((a.0, b.0), both_each A B past a.1 b.1)

    causes : Each (HasCause (run_ways z.role start.origins) z (h ++ t ∷ []) net'.back) (past_of h)
    causes =
        each_mapped (λ q d. HasCause (run_ways z.role start.origins) z (h ++ t ∷ []) net.back q d × IsOther start.net.opened net'.opened s.here q d) (HasCause (run_ways z.role start.origins) z (h ++ t ∷ []) net'.back) cause_here (past_of h)
        (both_each (HasCause (run_ways z.role start.origins) z (h ++ t ∷ []) net.back) (IsOther start.net.opened net'.opened s.here) (past_of h) (each_mapped (HasCause (run_ways z.role start.origins) z h net.back) (HasCause (run_ways z.role start.origins) z (h ++ t ∷ []) net.back) (cause_still z h (t ∷ []) (run_ways z.role start.origins) net.back) (past_of h) k.missed) s.others_missed)

    each_late : (rule : List Entry → Entry → Bool) → ((past : List Entry) (d : Entry) → moves_links d ≡ false → rule past d ≡ true) → IsTrue (each rule (e ∷ past_of h)) → IsTrue (each rule (past_of (h ++ t ∷ [])))
    each_late rule free x = subst (λ (past : List Entry). IsTrue (each rule past)) (sym past_is) (entries_keep moves_links (λ (p : List Entry). IsTrue (each rule p)) (λ d p n y. rw (free p d n) y) first.late (e ∷ past_of h) none_links x)

    all_late : (Rule : List Entry → Entry → Type 0) → ((past : List Entry) (d : Entry) → moves_links d ≡ false → Rule past d) → Each Rule (e ∷ past_of h) → Each Rule (past_of (h ++ t ∷ []))
    all_late Rule free x = subst (λ (past : List Entry). Each Rule past) (sym past_is) (entries_keep moves_links (λ (p : List Entry). Each Rule p) (λ d p n y. (free p d n, y)) first.late (e ∷ past_of h) none_links x)

    somewhere_late : (place : ℕ) → IsSomewhere net' (e ∷ past_of h) place → IsSomewhere net' (past_of (h ++ t ∷ [])) place
    somewhere_late place (inl g) = inl (ap (λ (xs : List ℕ). has xs place) greeting_after ∙ g)
    somewhere_late place (inr (inl p)) = inr (inl (p.0, place_after p.0 ∙ p.1))
    somewhere_late place (inr (inr b)) = inr (inr (b.0, b.1, (b.2.0, asked)))
      where
        asked : IsAsked (past_of (h ++ t ∷ [])) place b.0
        asked i s = let a = b.2.1 i s in let c = greeting_ticks_after place in let d = tick_leaves (λ before. has (greeting before) place) e (past_of h) silent_tick in omega (arith, a, c, d)

    carried_late : (p place : ℕ) → IsHeld (e ∷ past_of h) p ⊎ IsBackAfter p place → IsCarried start.origins z (h ++ t ∷ []) net' p place
    carried_late p place (inr b) = inr (inr b)
    carried_late p place (inl x) = go (subst (λ (past : List Entry). IsHeld past p) (sym past_is) (entries_keep moves_links (λ (past : List Entry). IsHeld past p) (held_on p) first.late (e ∷ past_of h) none_links x))
      where
        go : IsHeld (past_of (h ++ t ∷ [])) p → IsCarried start.origins z (h ++ t ∷ []) net' p place
        go (inl y) = inl y
        go (inr y) = inr (inl y)

    pub stepped : LinksKept z start (h ++ t ∷ []) net'
    stepped =
        record {
          opened = s.opened;
          few = s.few;
          in_place = each_late (keeps_places start.net.opened net'.opened) (free_place start.net.opened net'.opened) (let wide = each_wider start.net.opened net.opened net'.opened s.more (past_of h) k.in_place in let now_ = s.keeps in rw (now_, wide) refl);
          over_links = each_late is_over_link free_over (let over = s.over in let before = k.over_links in rw (over, before) refl);
          named = all_late (IsNamed start.origins z) (free_name start.origins z) (s.name, k.named);
          met = λ place a b. ap is_some (met_after place) ∙ s.met place a b;
          somewhere = λ place a b. somewhere_late place (s.somewhere place a b);
          missed = all_late (HasCause (run_ways z.role start.origins) z (h ++ t ∷ []) net'.back) (free_cause (run_ways z.role start.origins) z (h ++ t ∷ []) net'.back) (s.cause, causes);
          carried = λ p place is n. carried_late p place (s.carried p place (sym (place_after p) ∙ is) n);
          others = s.others;
        }
