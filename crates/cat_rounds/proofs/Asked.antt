-- The net was asked as the plan requires.
use Rattle.std.proofs.Common.{◌≡◌, refl, ap, sym, ◌∙◌, subst, List, [], ◌∷◌, ◌++◌, ℕ, ◌+◌, ◌*◌, ◌≤◌, ◌<◌, Bool, true, false, arith, length, inl, inr, mul-le-mul_left}
use Rattle.std.specs.Prelude.{◌⊎◌, ◌^◌, ◌==◌, nat_le, if◌then◌else◌}
use Rattle.std.specs.List.{AllByRecursion}
use Rattle.std.proofs.lemmas.Bool.Decides.{nat_tests}
use Rattle.sp_base.specs.Views.{NetView}
use Rattle.sp_history.specs.declared.entry.Entry.{Entry}
use Rattle.sp_history.specs.declared.entry.Entry.TheVariants.{Tick}
use Rattle.sp_history.specs.declared.setting.Setting.{Setting}
use Rattle.sp_history.specs.Found.{ticks, before_last_tick, AreOrdered}
use Rattle.sp_history.specs.Legal.{AreAllowed}
use Rattle.sp_history.proofs.StandingEntries.{earlier_in_order}
use Rattle.cat_text.specs.declared.plan.End.{End}
use Rattle.sp_ends.specs.LinkCounts.{CanRise, ticks_where, has_room, spaced_from}
use Rattle.cat_play.specs.Spending.{roomy_ticks, listens_of, dials_of, AreTries, TriedAtLeast, WereAsked}
use Rattle.cat_play.proofs.Trying.{are_tries}
use Rattle.sp_ends.specs.declared.dialer.Dialer.{Dialer}
use Rattle.sp_ends.specs.Dialing.{IsDialed}
use Rattle.sp_ends.specs.declared.listener.Listener.{Listener}
use Rattle.sp_ends.specs.EndViews.{Beginning}
use Rattle.sp_ends.specs.RunLinks.{NetStands, SameCounts, tries_of}

-- ---- Tries

spaced_prefix : (from : ℕ) (ts : List ℕ) (t : ℕ) → length (spaced_from from ts) ≤ length (spaced_from from (ts ++ t ∷ []))
spaced_prefix from [] t = omega arith
spaced_prefix from (u ∷ ts) t = go (nat_le from u) (spaced_prefix (u + 100) ts t) (spaced_prefix from ts t)
  where
    go : (b : Bool) → length (spaced_from (u + 100) ts) ≤ length (spaced_from (u + 100) (ts ++ t ∷ [])) → length (spaced_from from ts) ≤ length (spaced_from from (ts ++ t ∷ []))
        → length (if b then u ∷ spaced_from (u + 100) ts else spaced_from from ts) ≤ length (if b then u ∷ spaced_from (u + 100) (ts ++ t ∷ []) else spaced_from from (ts ++ t ∷ []))
    go true h k = omega (arith, h)
    go false h k = k

earlier_few : (past : List Entry) → length (spaced_from 0 (ticks (before_last_tick past))) ≤ length (spaced_from 0 (ticks past))
earlier_few [] = omega arith
earlier_few (Tick t due ∷ past) = spaced_prefix 0 (ticks past) t
earlier_few (_ ∷ past) = earlier_few past

tries_few : (past : List Entry) (tries : List ℕ) → AreOrdered (ticks (before_last_tick past)) → AreTries past tries → length tries ≤ length (spaced_from 0 (ticks past))
tries_few past tries order are =
    let most = (are_tries past order).longest tries are.thinned are.apart in
    let few = earlier_few past in
    omega (arith, most, few)

-- how often a dialer has tried
has_tried : (past : List Entry) (same : Type 0) (b : Bool) (tried : ℕ) → (b ≡ true → same) → AreOrdered (ticks (before_last_tick past)) → length (ticks past) < 2 ^ 64 → TriedAtLeast b past tried → (d : Dialer) → IsDialed same past d → tried ≤ d.tries
has_tried past same true tried stays order few (tries, are, is) d dialed =
    let most = tries_few past tries order are in
    let spaced = dialed.tries (stays refl) few in
    omega (arith, most, spaced, is)
has_tried past same false tried stays order few is d dialed = go (nat_le 2 (length (ticks past))) refl is
  where
    go : (b : Bool) → nat_le 2 (length (ticks past)) ≡ b → tried ≡ (if b then 1 else 0) → tried ≤ d.tries
    go true two one = let some : 0 < length (ticks past) = grind (arith, nat_tests) in let once = dialed.once some in omega (arith, one, once)
    go false two none = omega (arith, none)

all_tried : (past : List Entry) (same : Type 0) (tried : ℕ) → ((d : Dialer) → IsDialed same past d → tried ≤ d.tries) → (ds : List Dialer) → AllByRecursion (IsDialed same past) ds → length ds * tried ≤ tries_of ds
all_tried past same tried each [] all = omega arith
all_tried past same tried each (d ∷ ds) all =
    let before = all_tried past same tried each ds all.1 in
    let one = each d all.0 in
    omega (arith, before, one)

-- before the first tick no try is required
none_wanted : (past : List Entry) (b : Bool) (tried : ℕ) → AreOrdered (ticks (before_last_tick past)) → ticks past ≡ [] → TriedAtLeast b past tried → tried ≡ 0
none_wanted past true tried order none (tries, are, is) =
    let most = tries_few past tries order are in
    let zero : length (spaced_from 0 (ticks past)) ≡ 0 = ap (λ ts. length (spaced_from 0 ts)) none in
    omega (arith, most, zero, is)
none_wanted past false tried order none is = is ∙ ap (λ (ts : List ℕ). if nat_le 2 (length ts) then 1 else 0) none

-- ---- Rounds with room

rooms : (past : List Entry) → roomy_ticks past ≤ ticks_where has_room past
rooms [] = omega arith
rooms (Tick t due ∷ past) = go (has_room past)
  where
    go : (b : Bool) → ticks_where has_room past ≤ (if b then ticks_where has_room past + 1 else ticks_where has_room past)
    go true = omega arith
    go false = omega arith
rooms (_ ∷ past) = rooms past

no_rooms : (past : List Entry) → ticks past ≡ [] → roomy_ticks past ≡ 0
no_rooms [] none = refl
no_rooms (Tick t due ∷ past) none = elim (some (ticks past) t none) [ ]
  where
    some : (xs : List ℕ) (x : ℕ) → xs ++ x ∷ [] ≡ [] → ⊥
    some [] x e = cc
    some (y ∷ xs) x e = cc
no_rooms (_ ∷ past) none = no_rooms past none

-- ---- All ends

same_number : (a b : ℕ) → (a == b) ≡ true → a ≡ b
same_number a b e = grind (arith, nat_tests)

-- the plan's ends are those that were asked, or nothing was asked yet
abbrev pub AreAsked : List End → List Entry → List Listener → List Dialer → Type 0
AreAsked es past ls ds = ((length ls ≡ listens_of es) × (length ds ≡ dials_of es)) ⊎ (ticks past ≡ [])

grew : (es : List End) (start : Beginning) (net net' : NetView) (past : List Entry) (ls : List Listener) (ds : List Dialer) → NetStands start past past net ls ds → SameCounts net net' → AreOrdered (ticks (before_last_tick past)) → length (ticks past) < 2 ^ 64 → AreAsked es past ls ds
    → start.net.opened ≤ net.opened → CanRise net'.idles → CanRise net'.faults → (tried : ℕ) → TriedAtLeast (net'.opened == start.net.opened) past tried → start.net.idles + start.net.faults + start.net.opened + listens_of es * roomy_ticks past + dials_of es * tried ≤ net'.idles + net'.faults + net'.opened
grew es start net net' past ls ds stands counts order few (inl (listens, dials)) opened idles faults tried was =
    let rose = stands.rose (subst CanRise counts.idles idles) (subst CanRise counts.faults faults) in
    let asked = subst (λ n. n * roomy_ticks past ≤ length ls * ticks_where has_room past) listens (mul-le-mul_left (length ls) (rooms past)) in
    let dialed = subst (λ n. n * tried ≤ tries_of ds) dials (all_tried past (net.opened ≡ start.net.opened) tried (has_tried past (net.opened ≡ start.net.opened) (net'.opened == start.net.opened) tried (λ e. sym counts.opened ∙ same_number net'.opened start.net.opened e) order few was) ds stands.dials) in
    omega (arith, rose, asked, dialed, counts.idles, counts.faults, counts.opened)
grew es start net net' past ls ds stands counts order few (inr none) opened idles faults tried was =
    let no_room = no_rooms past none in
    let no_try = none_wanted past (net'.opened == start.net.opened) tried order none was in
    let asked : listens_of es * roomy_ticks past ≡ 0 = rw no_room (omega arith) in
    let dialed : dials_of es * tried ≡ 0 = rw no_try (omega arith) in
    omega (arith, asked, dialed, stands.idles, stands.faults, opened, counts.idles, counts.faults, counts.opened)

pub were_asked : (es : List End) (z : Setting) (start : Beginning) (net net' : NetView) (past : List Entry) (ls : List Listener) (ds : List Dialer) → NetStands start past past net ls ds → SameCounts net net' → AreAllowed z past → length (ticks past) < 2 ^ 64 → AreAsked es past ls ds → start.net.opened ≤ net.opened
    → WereAsked es past start.net net'
were_asked es z start net net' past ls ds stands counts allowed few asked opened =
    record {
      idles = omega (arith, stands.idles, counts.idles);
      faults = omega (arith, stands.faults, counts.faults);
      opened = omega (arith, opened, counts.opened);
      rose = λ idles faults tried was. grew es start net net' past ls ds stands counts (earlier_in_order z past allowed) few asked opened idles faults tried was;
    }
