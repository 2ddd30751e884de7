-- One link that was taken out, and its fate.
use Rattle.std.proofs.Common.{◌≡◌, refl, ap, sym, ◌∙◌, subst, List, [], ◌∷◌, ◌++◌, ℕ, ◌+◌, ◌≤◌, Bool, true, false, cond, arith, length, Option, Some, None, inl, inr, append_assoc, length-append, take, drop, eq-eqb, eqb-true}
use Rattle.std.proofs.lemmas.List.{map-append, append-nil, take-append-le, drop-append-le}
use Rattle.std.specs.Prelude.{◌≢◌, ◌-◌, ◌^◌, IsTrue, suc, zero, ◌==◌, ◌||◌, not, nat_le}
use Rattle.std.proofs.lemmas.Bool.{le-leb}
use Rattle.std.specs.List.{AllByRecursion}
use Rattle.turn_lock.specs.declared.turn.Turn.{Turn}
use Rattle.sp_base.specs.Views.{LinkView, NetView}
use Rattle.sp_base.specs.Steps.{AfterGiveBack, IsHandedOut}
use Rattle.sp_base.specs.declared.addr.Scheme.{Scheme}
use Rattle.sp_history.specs.declared.entry.Entry.{Entry}
use Rattle.sp_history.specs.declared.entry.Entry.TheVariants.{Up, Met, NoUp, Tick}
use Rattle.sp_history.specs.declared.entry.Miss.{Miss}
use Rattle.sp_history.specs.declared.entry.WireNumbers.{WireNumbers}
use Rattle.sp_history.specs.declared.setting.Setting.{Setting}
use Rattle.sp_history.specs.Lists.{has, without, is_nil}
use Rattle.sp_history.specs.Legal.{Legal}
use Rattle.sp_history.specs.Past.{past_of, up, ups, untaken, now}
use Rattle.sp_core.specs.Moving.{AreSettling}
use Rattle.sp_core.specs.Standing.{HasFirst}
use Rattle.sp_core.specs.Attaching.{RefusedAttach}
use Rattle.core_state.specs.declared.causes.AttachError.{AttachError}
use Rattle.core_state.specs.declared.causes.AttachError.TheVariants as refused
use Rattle.sp_ends.specs.LinkRecords.{met_at, greeting, keeps_places, refuses}
use Rattle.sp_ends.specs.Entries.{each}
use Rattle.sp_history.specs.Once.{AreDistinct}
use Rattle.sp_ends.specs.LinkCounts.{greeting_ticks, CanRise}
use Rattle.sp_ends.specs.Entries.{moves_ends}
use Rattle.sp_ends.specs.declared.newcomer.Newcomer.{Newcomer}
use Rattle.sp_links.specs.declared.way.Way.{Way}
use Rattle.sp_links.specs.declared.opening.Opening.{Opening}
use Rattle.sp_links.specs.Openings.{scheme_for}
use Rattle.sp_links.specs.Origins.{Origins, IsAmong, IsKnown, run_ways}
use Rattle.sp_links.specs.Going.{IsUnderWay, IsUndone, HasTried, IsLater, HasWaited, IsSame}
use Rattle.sp_ends.specs.EndViews.{Beginning}
use Rattle.sp_ends.specs.RunLinks.{IsOfRun, IsProgressing, WasGreeted, AreProgressing, LinksKept, LinksStand, InHand, HandStands, places, in_order, IsNamed, IsCauseOf}
use Rattle.sp_ends.proofs.LinkPlaces.{has_at, apart, taken_out, unmet}
use Rattle.sp_ends.proofs.LaterEntries.{NoneIn}
use Rattle.sp_ends.proofs.LinksStay.{kept, legal_rest, missed_still, greeting_is, met_is}
use Rattle.sp_ends.proofs.EndsStay.{all_mapped, progress_same, settles, no_links, asked_are}
use Rattle.sp_ends.proofs.LinkSteps.{greeting_after, met_after, greeting_ticks_after}
use Rattle.sp_ends.proofs.Moves.{kept_met, kept_up, kept_missed, unmet_yet}

-- the opening is the run's, later too
pub of_run_later : {L : Type 0} (seen : L → LinkView) (o : Origins) (z : Setting) (n m : Opening L) → IsLater (seen n.link) (seen m.link) → IsSame n m → IsOfRun seen o z n → IsOfRun seen o z m
of_run_later seen o z n m later same r =
    record { role = same.role ∙ r.role; scheme = later.scheme ∙ (r.scheme ∙ ap scheme_for (sym same.way)); known = subst (λ (w : Way). IsKnown o w) (sym same.way) r.known }

module _ {L : Type 0} (seen : L → LinkView) where
  -- the places of the links in order
  pub in_turn : (k : ℕ) (ns : List (Newcomer L)) → places seen (in_order k ns) ≡ places seen (drop k ns) ++ places seen (take k ns)
  in_turn k ns = map-append (λ (n : Newcomer L). (seen n.opening.link).place) (drop k ns) (take k ns)

  module _ (z : Setting) (start : Beginning) (h : List (Turn Entry)) (ns : List (Newcomer L)) (k : ℕ) where
    -- the link is in progress
    pub hand_waits : (link : LinkView) → InHand seen start.origins z (past_of h) ns k link → has (greeting (past_of h)) link.place ≡ true
    hand_waits link i = subst (λ (xs : List ℕ). has xs link.place ≡ true) i.all (has_at (places seen (drop k ns)) (places seen (take k ns)) link.place)

    -- the others are in progress without it
    pub hand_out : (first opened : ℕ) (link : LinkView) → IsTrue (each (keeps_places first opened) (past_of h)) → InHand seen start.origins z (past_of h) ns k link → places seen (in_order k ns) ≡ without (greeting (past_of h)) link.place
    hand_out first opened link kept i =
        let d : AreDistinct (places seen (drop k ns) ++ link.place ∷ places seen (take k ns)) = subst AreDistinct (sym i.all) (apart first opened (past_of h) kept) in
        in_turn k ns ∙ (sym (taken_out (places seen (drop k ns)) (places seen (take k ns)) link.place d) ∙ ap (λ (xs : List ℕ). without xs link.place) i.all)

    -- the others stay as they were
    others_go_on : (new : List Entry) → ((place : ℕ) → met_at new place ≡ met_at (past_of h) place) → ((place : ℕ) → greeting_ticks new place ≡ greeting_ticks (past_of h) place) → (link : LinkView) → InHand seen start.origins z (past_of h) ns k link → places seen (in_order k ns) ≡ greeting new → AreProgressing seen start.origins z new k ns
    others_go_on new met ticks link i all =
        record {
          within = i.within;
          ungreeted = all_mapped (IsProgressing seen start.origins z (past_of h) 1) (IsProgressing seen start.origins z new 1) (progress_same seen start.origins z (past_of h) new met ticks 1) (take k ns) i.ungreeted;
          rest = all_mapped (WasGreeted seen start.origins z (past_of h)) (WasGreeted seen start.origins z new) (λ n w. record { progressing = progress_same seen start.origins z (past_of h) new met ticks 0 n w.progressing; undone = w.undone; tried = w.tried }) (drop k ns) i.rest;
          all = all;
        }

    -- it is missed, and back
    pub hand_missed : (net net' : NetView) (t : Turn Entry) (link : LinkView) (miss : Miss) → HandStands seen z start h net ns k link → IsCauseOf start.origins z h miss link → AfterGiveBack (record link { is_open = false }) net net' → HasFirst (NoUp link.place miss) t → Legal z (h ++ t ∷ []) → LinksStand seen z start (h ++ t ∷ []) net' ns k
    hand_missed net net' t link miss s cause back first l =
        let shut : LinkView = record link { is_open = false } in
        let waits = hand_waits link s.hand in
        let ways = run_ways z.role start.origins in
        record {
          kept = kept_missed z start net net' h t shut miss back waits refl s.hand.asked (cause.0, cause.1, missed_still z h (t ∷ []) ways (past_of h) link.place miss shut cause.0 cause.2) first l s.kept;
          progressing = others_go_on (past_of (h ++ t ∷ [])) (met_after z start net net' h t (NoUp link.place miss) first refl l s.kept) (greeting_ticks_after z start net net' h t (NoUp link.place miss) first refl l s.kept) link s.hand (hand_out start.net.opened net.opened link s.kept.in_place s.hand ∙ sym (greeting_after z start net net' h t (NoUp link.place miss) first refl l s.kept));
        }

    -- it came up
    pub hand_up : (net : NetView) (t : Turn Entry) (link : LinkView) (p limit : ℕ) (name : WireNumbers) → HandStands seen z start h net ns k link → p ≡ ups (past_of h) + 1 → IsNamed start.origins z (past_of h) (Up p link.place limit name) → HasFirst (Up p link.place limit name) t → Legal z (h ++ t ∷ []) → LinksStand seen z start (h ++ t ∷ []) net ns k
    hand_up net t link p limit name s next named first l =
        let waits = hand_waits link s.hand in
        record {
          kept = kept_up z start net h t p link.place limit name next waits named first l s.kept;
          progressing = others_go_on (past_of (h ++ t ∷ [])) (met_after z start net net h t (Up p link.place limit name) first refl l s.kept) (greeting_ticks_after z start net net h t (Up p link.place limit name) first refl l s.kept) link s.hand (hand_out start.net.opened net.opened link s.kept.in_place s.hand ∙ sym (greeting_after z start net net h t (Up p link.place limit name) first refl l s.kept));
        }

    -- it is there after a turn that leaves the ends
    pub hand_stays : (net : NetView) (t : Turn Entry) (link : LinkView) → HandStands seen z start h net ns k link → AreSettling t.entries → Legal z (h ++ t ∷ []) → HandStands seen z start (h ++ t ∷ []) net ns k link
    hand_stays net t link s q l =
        let none : NoneIn moves_ends (t ∷ []) = rw (settles t.entries q) refl in
        let links = no_links seen z h (t ∷ []) none in
        let both = legal_rest z h (t ∷ []) l in
        let new = past_of (h ++ t ∷ []) in
        let met = met_is z h (t ∷ []) links in
        let ticks : (place : ℕ) → greeting_ticks new place ≡ greeting_ticks (past_of h) place = λ place. asked_are seen z h (t ∷ []) none (λ before. has (greeting before) place) in
        record {
          kept = kept z h (t ∷ []) links start net s.kept both.0 both.1;
          hand =
              record {
                within = s.hand.within;
                ungreeted = all_mapped (IsProgressing seen start.origins z (past_of h) 1) (IsProgressing seen start.origins z new 1) (progress_same seen start.origins z (past_of h) new met ticks 1) (take k ns) s.hand.ungreeted;
                rest = all_mapped (WasGreeted seen start.origins z (past_of h)) (WasGreeted seen start.origins z new) (λ n w. record { progressing = progress_same seen start.origins z (past_of h) new met ticks 0 n w.progressing; undone = w.undone; tried = w.tried }) (drop k ns) s.hand.rest;
                all = s.hand.all ∙ sym (greeting_is z h (t ∷ []) links);
                asked = λ i j. let a = s.hand.asked i j in let b = ticks link.place in omega (arith, a, b);
              };
        }

    -- ---- Greeted

    -- the first of those that are still to be greeted is taken out, and is the same link later
    pub to_hand : (net : NetView) (n : Newcomer L) (link : LinkView) → IsLater (seen n.opening.link) link → LinksStand seen z start h net (n ∷ ns) (suc k) → HandStands seen z start h net ns k link
    to_hand net n link later s =
        let p = s.progressing.ungreeted.0 in
        record {
          kept = s.kept;
          hand =
              record {
                within = let w = s.progressing.within in omega (arith, w);
                ungreeted = s.progressing.ungreeted.1;
                rest = s.progressing.rest;
                all = ap (λ (m : ℕ). places seen (drop k ns) ++ m ∷ places seen (take k ns)) later.place ∙ (sym (in_turn (suc k) (n ∷ ns)) ∙ s.progressing.all);
                asked = λ i j.
                    let a = p.asked (let b = later.idles in omega (arith, b, i)) (let b = later.stalls in omega (arith, b, j)) in
                    let same : greeting_ticks (past_of h) link.place ≡ greeting_ticks (past_of h) (seen n.opening.link).place = ap (λ (m : ℕ). greeting_ticks (past_of h) m) later.place in
                    let b = later.idles in let c = later.stalls in omega (arith, a, same, b, c);
              };
        }

    -- it stays in progress, after the others
    pub stays_behind : (net : NetView) (n m : Newcomer L) → IsLater (seen n.opening.link) (seen m.opening.link) → IsSame n.opening m.opening → m.met ≡ n.met → m.max ≡ n.max → IsUnderWay seen m.opening → IsUndone seen m.opening → HasTried seen m.opening → HasWaited (seen n.opening.link) (seen m.opening.link) → LinksStand seen z start h net (n ∷ ns) (suc k) → LinksStand seen z start h net (ns ++ m ∷ []) k
    stays_behind net n m later way met max under undone tried waited s =
        let a = s.progressing in
        let p = a.ungreeted.0 in
        let w : k ≤ length ns = let x = a.within in omega (arith, x) in
        record {
          kept = s.kept;
          progressing =
              record {
                within = omega (arith, w, length-append ns (m ∷ []));
                ungreeted = subst (λ (xs : List (Newcomer L)). AllByRecursion (IsProgressing seen start.origins z (past_of h) 1) xs) (sym (take-append-le k ns (m ∷ []) w)) a.ungreeted.1;
                rest = subst (λ (xs : List (Newcomer L)). AllByRecursion (WasGreeted seen start.origins z (past_of h)) xs) (sym (drop-append-le k ns (m ∷ []) w)) (all_behind (drop k ns) a.rest now_);
                all = in_turn k (ns ++ m ∷ []) ∙ (where_ w ∙ (sym (in_turn (suc k) (n ∷ ns)) ∙ a.all));
              };
        }
      where
        asked : CanRise (seen m.opening.link).idles → CanRise (seen m.opening.link).stalls → HasWaited (seen n.opening.link) (seen m.opening.link) → greeting_ticks (past_of h) (seen m.opening.link).place ≤ (seen m.opening.link).idles + (seen m.opening.link).stalls + 0
        asked i j (inl r) =
            let b = later.idles in let c = later.stalls in let a = s.progressing.ungreeted.0.asked (omega (arith, b, i)) (omega (arith, c, j)) in
            let same : greeting_ticks (past_of h) (seen m.opening.link).place ≡ greeting_ticks (past_of h) (seen n.opening.link).place = ap (λ (x : ℕ). greeting_ticks (past_of h) x) later.place in omega (arith, a, same, b, c, i, j, r)
        asked i j (inr r) =
            let b = later.idles in let c = later.stalls in let a = s.progressing.ungreeted.0.asked (omega (arith, b, i)) (omega (arith, c, j)) in
            let same : greeting_ticks (past_of h) (seen m.opening.link).place ≡ greeting_ticks (past_of h) (seen n.opening.link).place = ap (λ (x : ℕ). greeting_ticks (past_of h) x) later.place in omega (arith, a, same, b, c, i, j, r)

        now_ : WasGreeted seen start.origins z (past_of h) m
        now_ =
            let p = s.progressing.ungreeted.0 in
            record {
              progressing =
                  record { under_way = under; of_run = of_run_later seen start.origins z n.opening m.opening later way p.of_run; met = ap (λ (x : ℕ). met_at (past_of h) x) later.place ∙ (p.met ∙ ap Some (sym met)); limit = subst (λ (x : ℕ). IsAmong x start.origins.limits) (sym max) p.limit; asked = λ i j. asked i j waited };
              undone = undone;
              tried = tried;
            }

        all_behind : (xs : List (Newcomer L)) → AllByRecursion (WasGreeted seen start.origins z (past_of h)) xs → WasGreeted seen start.origins z (past_of h) m → AllByRecursion (WasGreeted seen start.origins z (past_of h)) (xs ++ m ∷ [])
        all_behind [] x y = (y, tt)
        all_behind (d ∷ xs) x y = (x.0, all_behind xs x.1 y)

        where_ : k ≤ length ns → places seen (drop k (ns ++ m ∷ [])) ++ places seen (take k (ns ++ m ∷ [])) ≡ places seen (drop (suc k) (n ∷ ns)) ++ places seen (take (suc k) (n ∷ ns))
        where_ w =
            ap (λ (xs : List (Newcomer L)). places seen xs ++ places seen (take k (ns ++ m ∷ []))) (drop-append-le k ns (m ∷ []) w)
            ∙ (ap (λ (xs : List (Newcomer L)). places seen (drop k ns ++ m ∷ []) ++ places seen xs) (take-append-le k ns (m ∷ []) w)
            ∙ (ap (λ (xs : List ℕ). xs ++ places seen (take k ns)) (map-append (λ (x : Newcomer L). (seen x.opening.link).place) (drop k ns) (m ∷ []))
            ∙ (append_assoc (places seen (drop k ns)) ((seen m.opening.link).place ∷ []) (places seen (take k ns))
            ∙ ap (λ (x : ℕ). places seen (drop k ns) ++ x ∷ places seen (take k ns)) later.place)))

  -- ---- Handed out

  -- a link that was not met was not in progress at any tick
  no_ticks : (past : List Entry) (place : ℕ) → met_at past place ≡ None → greeting_ticks past place ≡ 0
  no_ticks [] place h = refl
  no_ticks (Met other ∷ past) place h = go (other == place) h (no_ticks past place)
    where
      go : (t : Bool) → cond t (Some (now past)) (met_at past place) ≡ None → (met_at past place ≡ None → greeting_ticks past place ≡ 0) → greeting_ticks past place ≡ 0
      go true e f = cc
      go false e f = f e
  no_ticks (Tick t due ∷ past) place h = rw (unmet 0 0 past place h) (no_ticks past place h)
  no_ticks (_ ∷ past) place h = no_ticks past place h

  -- it is met, and in hand
  pub link_met : (z : Setting) (start : Beginning) (net net' : NetView) (h : List (Turn Entry)) (t : Turn Entry) (ns : List (Newcomer L)) (link : LinkView) (scheme : Option Scheme) → IsHandedOut link scheme net net' → HasFirst (Met link.place) t → Legal z (h ++ t ∷ []) → LinksStand seen z start h net ns 0 → HandStands seen z start (h ++ t ∷ []) net' ns 0 link
  link_met z start net net' h t ns link scheme o first l s =
      let e = Met link.place in
      let met = met_after z start net net' h t e first refl l s.kept in
      let ticks = greeting_ticks_after z start net net' h t e first refl l s.kept in
      let none = unmet_yet z start net net' h t link scheme o first l s.kept in
      let new = past_of (h ++ t ∷ []) in
      record {
        kept = kept_met z start net net' h t link scheme o first l s.kept;
        hand =
            record {
              within = omega arith;
              ungreeted = tt;
              rest = all_mapped (WasGreeted seen start.origins z (past_of h)) (WasGreeted seen start.origins z new) (λ m w. one_on met ticks none m w) ns s.progressing.rest;
              all = ap (λ (xs : List ℕ). xs ++ link.place ∷ []) (ap (places seen) (sym (append-nil ns)) ∙ s.progressing.all) ∙ sym (greeting_after z start net net' h t e first refl l s.kept);
              asked = λ i j. let a = ticks link.place in let b = no_ticks (past_of h) link.place none in omega (arith, a, b);
            };
      }
    where
      one_on : ((place : ℕ) → met_at (past_of (h ++ t ∷ [])) place ≡ met_at (Met link.place ∷ past_of h) place) → ((place : ℕ) → greeting_ticks (past_of (h ++ t ∷ [])) place ≡ greeting_ticks (past_of h) place) → met_at (past_of h) link.place ≡ None → (m : Newcomer L) → WasGreeted seen start.origins z (past_of h) m → WasGreeted seen start.origins z (past_of (h ++ t ∷ [])) m
      one_on met ticks none m w =
          record {
            progressing =
                record {
                  under_way = w.progressing.under_way;
                  of_run = w.progressing.of_run;
                  met = met (seen m.opening.link).place ∙ go (link.place == (seen m.opening.link).place) refl;
                  limit = w.progressing.limit;
                  asked = λ i j. let a = w.progressing.asked i j in let b = ticks (seen m.opening.link).place in omega (arith, a, b);
                };
            undone = w.undone;
            tried = w.tried;
          }
        where
          go : (u : Bool) → (link.place == (seen m.opening.link).place) ≡ u → cond u (Some (now (past_of h))) (met_at (past_of h) (seen m.opening.link).place) ≡ Some m.met
          go true e =
              let same : link.place ≡ (seen m.opening.link).place = eqb-true link.place (seen m.opening.link).place e in
              let no : met_at (past_of h) (seen m.opening.link).place ≡ None = subst (λ (q : ℕ). met_at (past_of h) q ≡ None) same none in
              let is = w.progressing.met in cc
          go false e = w.progressing.met

  -- the tick at which it was met
  pub met_then : (z : Setting) (start : Beginning) (net net' : NetView) (h : List (Turn Entry)) (t : Turn Entry) (link : LinkView) → HasFirst (Met link.place) t → Legal z (h ++ t ∷ []) → LinksKept z start h net → met_at (past_of (h ++ t ∷ [])) link.place ≡ Some (now (past_of h))
  met_then z start net net' h t link first l k =
      let here : met_at (Met link.place ∷ past_of h) link.place ≡ Some (now (past_of h)) = rw (eq-eqb link.place link.place refl) refl in
      met_after z start net net' h t (Met link.place) first refl l k link.place ∙ here

  -- the one in hand is the first to be greeted
  pub hand_first : (z : Setting) (start : Beginning) (net : NetView) (h : List (Turn Entry)) (ns : List (Newcomer L)) (n : Newcomer L) → HandStands seen z start h net ns 0 (seen n.opening.link) → IsUnderWay seen n.opening → IsOfRun seen start.origins z n.opening → met_at (past_of h) (seen n.opening.link).place ≡ Some n.met → IsAmong n.max start.origins.limits → LinksStand seen z start h net (n ∷ ns) (suc zero)
  hand_first z start net h ns n s under run met limit =
      record {
        kept = s.kept;
        progressing =
            record {
              within = omega arith;
              ungreeted = (record { under_way = under; of_run = run; met = met; limit = limit; asked = s.hand.asked }, tt);
              rest = s.hand.rest;
              all = map-append (λ (x : Newcomer L). (seen x.opening.link).place) ns (n ∷ []) ∙ s.hand.all;
            };
      }

-- ---- Why it was refused

pub or_other : (a b : Bool) → b ≡ true → (a || b) ≡ true
or_other true b h = refl
or_other false b h = h

or_first : (a b : Bool) → a ≡ true → (a || b) ≡ true
or_first true b h = refl
or_first false b h = cc

not_nil : (xs : List ℕ) → xs ≢ [] → not (is_nil xs) ≡ true
not_nil [] h = absurd (h refl)
not_nil (x ∷ xs) h = refl

pub is_refused : (z : Setting) (past : List Entry) (e : AttachError) → RefusedAttach e z past → (e ≡ refused.NoMemory → ⊥) → refuses z past ≡ true
is_refused z past refused.Closed r n = rw r refl
is_refused z past refused.Refused r n = let p = r.1 in let u = not_nil (up past) r.2 in rw (r.0, p, u) refl
is_refused z past refused.Many (o, a, inl m) n =
    let b : nat_le 4096 (length (up past) + length (untaken past)) ≡ true = le-leb 4096 (length (up past) + length (untaken past)) m in rw b (or_first _ _ (or_other _ true refl))
is_refused z past refused.Many (o, a, inr m) n =
    let b : nat_le (2 ^ 31 - 1) (ups past) ≡ true = le-leb (2 ^ 31 - 1) (ups past) m in rw b (or_other _ true refl)
is_refused z past refused.NoMemory r n = absurd (n refl)
