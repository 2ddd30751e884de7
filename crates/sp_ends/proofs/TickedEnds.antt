-- A tick begins a round: all links in progress are still to be greeted, and each end is still to be asked.
use Rattle.std.proofs.Common.{◌≡◌, refl, ap, sym, ◌∙◌, subst, List, [], ◌∷◌, ◌++◌, ℕ, ◌+◌, ◌≤◌, Bool, true, false, cond, arith, length, take, drop, length-append, leb-true}
use Rattle.std.proofs.lemmas.List.{append-nil}
use Rattle.std.specs.Prelude.{suc}
use Rattle.std.specs.List.{AllByRecursion}
use Rattle.turn_lock.specs.declared.turn.Turn.{Turn}
use Rattle.sp_base.specs.Views.{LinkView, NetView}
use Rattle.sp_base.specs.declared.OpName.{OpName}
use Rattle.sp_history.specs.declared.entry.Entry.{Entry}
use Rattle.sp_history.specs.declared.entry.Entry.TheVariants.{Tick}
use Rattle.sp_history.specs.declared.setting.Setting.{Setting}
use Rattle.sp_history.specs.Lists.{has}
use Rattle.sp_history.specs.Legal.{Legal}
use Rattle.sp_history.specs.Past.{onto, past_of}
use Rattle.sp_history.specs.Found.{before_last_tick, ticks}
use Rattle.sp_history.proofs.Appending.{past_of-append}
use Rattle.sp_core.specs.Standing.{HasFirst}
use Rattle.sp_ends.specs.LinkRecords.{greeting}
use Rattle.sp_ends.specs.LinkCounts.{greeting_ticks, ticks_where, has_room}
use Rattle.sp_ends.specs.Entries.{moves_ends}
use Rattle.sp_ends.specs.declared.newcomer.Newcomer.{Newcomer}
use Rattle.sp_ends.specs.EndViews.{Beginning, LinkEndsView}
use Rattle.sp_ends.specs.RunLinks.{IsProgressing, WasGreeted, AreProgressing, places, in_order, EndsStand}
use Rattle.sp_ends.specs.EndsTurns.{EndsTicked}
use Rattle.sp_ends.proofs.LaterEntries.{moves_links, NoneIn, entries_leave}
use Rattle.sp_ends.proofs.LinksStay.{kept, legal_rest, greeting_is, met_is}
use Rattle.sp_ends.proofs.EndsStay.{all_mapped, progress_later, settles, links_of, none_sub, same_before, same_where, same_ticks}

take_all : {A : Type 0} (xs : List A) → take (length xs) xs ≡ xs
take_all [] = refl
take_all (x ∷ xs) = ap (λ (ys : List _). x ∷ ys) (take_all xs)

drop_all : {A : Type 0} (xs : List A) → drop (length xs) xs ≡ []
drop_all [] = refl
drop_all (x ∷ xs) = drop_all xs

module _ {L : Type 0} (seen : L → LinkView) (z : Setting) (start : Beginning) (net : NetView) (h : List (Turn Entry)) (t : Turn Entry) (at : ℕ) (due : List OpName) (first : HasFirst (Tick at due) t) where
  none : NoneIn moves_links (t ∷ [])
  none = rw first.entries (rw (none_sub moves_ends moves_links links_of first.late (settles first.late first.late_settles)) refl)

  past_is : past_of (h ++ t ∷ []) ≡ onto first.late (Tick at due ∷ past_of h)
  past_is = past_of-append h t ∙ ap (λ (es : List Entry). onto es (past_of h)) first.entries

  before_is : before_last_tick (past_of (h ++ t ∷ [])) ≡ past_of h
  before_is = ap before_last_tick past_is ∙ entries_leave moves_ends before_last_tick same_before first.late (Tick at due ∷ past_of h) (settles first.late first.late_settles)

  one_more : (place : ℕ) → greeting_ticks (past_of (h ++ t ∷ [])) place + 0 ≤ greeting_ticks (past_of h) place + 1
  one_more place = go (has (greeting (past_of h)) place) (ap (λ (x : List Entry). greeting_ticks x place) past_is ∙ entries_leave moves_ends (ticks_where (λ before. has (greeting before) place)) (same_where (λ before. has (greeting before) place)) first.late (Tick at due ∷ past_of h) (settles first.late first.late_settles))
    where
      go : (b : Bool) → greeting_ticks (past_of (h ++ t ∷ [])) place ≡ cond b (greeting_ticks (past_of h) place + 1) (greeting_ticks (past_of h) place) → greeting_ticks (past_of (h ++ t ∷ [])) place + 0 ≤ greeting_ticks (past_of h) place + 1
      go true e = omega (arith, e)
      go false e = omega (arith, e)

  next_round : (ns : List (Newcomer L)) → AreProgressing seen start.origins z (past_of h) 0 ns → AreProgressing seen start.origins z (past_of (h ++ t ∷ [])) (length ns) ns
  next_round ns a =
      record {
        within = omega arith;
        ungreeted = subst (λ (ms : List (Newcomer L)). AllByRecursion (IsProgressing seen start.origins z (past_of (h ++ t ∷ [])) 1) ms) (sym (take_all ns)) (all_mapped (WasGreeted seen start.origins z (past_of h)) (IsProgressing seen start.origins z (past_of (h ++ t ∷ [])) 1) (λ n w. progress_later seen start.origins z (past_of h) (past_of (h ++ t ∷ [])) (met_is z h (t ∷ []) none) 0 1 one_more n w.progressing) ns a.rest);
        rest = subst (λ (ms : List (Newcomer L)). AllByRecursion (WasGreeted seen start.origins z (past_of (h ++ t ∷ []))) ms) (sym (drop_all ns)) tt;
        all = ap (places seen) (order ns) ∙ (a.all ∙ sym (greeting_is z h (t ∷ []) none));
      }
    where
      order : (ms : List (Newcomer L)) → in_order (length ms) ms ≡ in_order 0 ms
      order ms = ap (λ (xs : List (Newcomer L)). xs ++ take (length ms) ms) (drop_all ms) ∙ (take_all ms ∙ sym (append-nil ms))

  ticks_are : ticks (past_of (h ++ t ∷ [])) ≡ ticks (past_of h) ++ at ∷ []
  ticks_are = ap ticks past_is ∙ entries_leave moves_ends ticks same_ticks first.late (Tick at due ∷ past_of h) (settles first.late first.late_settles)

  places_long : (ns : List (Newcomer L)) → length (places seen ns) ≡ length ns
  places_long [] = refl
  places_long (n ∷ ns) = ap suc (places_long ns)

  newcomers_few : (ends : LinkEndsView L) → AreProgressing seen start.origins z (past_of h) 0 ends.newcomers → has_room (past_of h) ≡ true → length ends.newcomers ≤ 192
  newcomers_few ends a r =
      let few : length (greeting (past_of h)) ≤ 192 = leb-true (length (greeting (past_of h))) 192 r in
      let same = ap length a.all in
      let one = places_long (ends.newcomers ++ []) in
      let two = length-append ends.newcomers (take 0 ends.newcomers) in omega (arith, few, same, one, two)

  pub ticked : (ends : LinkEndsView L) → Legal z (h ++ t ∷ []) → EndsStand seen z start h net ends → EndsTicked seen z start (h ++ t ∷ []) net ends
  ticked ends l s =
      record {
        role = s.role;
        links = record { kept = kept z h (t ∷ []) none start net s.links.kept (legal_rest z h (t ∷ []) l).0 (legal_rest z h (t ∷ []) l).1; progressing = next_round ends.newcomers s.links.progressing };
        asked = rw before_is s.asked;
        of_run = s.of_run;
        ticked = rw ticks_are (omega (arith, length-append (ticks (past_of h)) (at ∷ [])));
        room = λ r. let few : has_room (past_of h) ≡ true = rw before_is at r in newcomers_few ends s.links.progressing few;
      }
