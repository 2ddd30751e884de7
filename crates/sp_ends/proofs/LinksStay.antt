-- What holds of the links of a run still holds after turns in which no link is handed out, comes up, is missed or is
-- taken.
use Rattle.std.proofs.Common.{◌≡◌, refl, ap, sym, ◌∙◌, subst, List, [], ◌∷◌, ◌++◌, ℕ, ◌<◌, Bool, true, false, arith, length, Some, inl, inr, append_assoc}
use Rattle.std.specs.Prelude.{◌^◌, IsTrue, is_some}
use Rattle.std.specs.FinMap.{FinMap}
use Rattle.std.specs.Ordering.{nat_cmp}
use Rattle.turn_lock.specs.declared.turn.Turn.{Turn}
use Rattle.sp_base.specs.Outside.{Told, IsPrefix}
use Rattle.sp_base.specs.SpStream.{stream_text}
use Rattle.sp_base.specs.declared.framing.Framing.{Framing}
use Rattle.sp_base.specs.Views.{LinkView, NetView}
use Rattle.sp_base.specs.Roles.{role_number}
use Rattle.sp_history.specs.declared.entry.Entry.{Entry}
use Rattle.sp_history.specs.declared.entry.Entry.TheVariants.{Up, Met, NoUp, Tick}
use Rattle.sp_history.specs.declared.entry.Miss.{Miss}
use Rattle.sp_history.specs.declared.entry.Miss.TheVariants as misses
use Rattle.sp_history.specs.declared.entry.Why.{Why}
use Rattle.sp_history.specs.declared.entry.Why.TheVariants as whys
use Rattle.sp_history.specs.declared.setting.Setting.{Setting}
use Rattle.sp_history.specs.Lists.{has}
use Rattle.sp_history.specs.Legal.{Legal, LegalFrom, last_is_malformed}
use Rattle.sp_history.specs.Past.{onto, past_from, past_of, up, frames, is_cleared}
use Rattle.sp_history.specs.Found.{SameOfPipe, ticks}
use Rattle.sp_history.proofs.Backing.{legal_allowed}
use Rattle.sp_history.proofs.SilentPipes.{down_is_silent}
use Rattle.sp_links.specs.Ways.{Ways, peer_number}
use Rattle.sp_links.specs.Origins.{Origins, run_ways}
use Rattle.sp_ends.specs.Entries.{each}
use Rattle.sp_ends.specs.LinkRecords.{place_of, met_at, greeting, keeps_places, Each, HasCause, MissedFor, WasRefused, WentDownFor}
use Rattle.sp_ends.specs.LinkCounts.{greeting_ticks, IsAsked}
use Rattle.sp_ends.specs.EndViews.{Beginning}
use Rattle.sp_ends.specs.RunLinks.{is_over_link, IsNamed, HasCarried, IsSomewhere, IsAskedIn, IsCarried, LinksKept}
use Rattle.sp_ends.proofs.LinkPlaces.{passed}
use Rattle.sp_ends.proofs.LeavingCleared.{stays_cleared}
use Rattle.sp_ends.proofs.LaterEntries.{past_of_more, NoneIn, turns_leave, turns_keep, moves_links, IsHeld, held_on, numbered, malformed_same, idle_same, ticks_grow, each_goes_on, all_goes_on, each_mapped}

-- ---- What entries leave unchanged

pub same_greeting : (e : Entry) (past : List Entry) → moves_links e ≡ false → greeting (e ∷ past) ≡ greeting past
same_greeting (Up p place limit name) past h = cc
same_greeting (Met place) past h = cc
same_greeting (NoUp place miss) past h = cc
same_greeting _ past h = refl

pub same_met : (place : ℕ) (e : Entry) (past : List Entry) → moves_links e ≡ false → met_at (e ∷ past) place ≡ met_at past place
same_met place (Met other) past h = cc
same_met place _ past h = refl

pub same_place : (p : ℕ) (e : Entry) (past : List Entry) → moves_links e ≡ false → place_of (e ∷ past) p ≡ place_of past p
same_place p (Up q place limit name) past h = cc
same_place p _ past h = refl

pub free_place : (first opened : ℕ) (past : List Entry) (e : Entry) → moves_links e ≡ false → keeps_places first opened past e ≡ true
free_place first opened past (Up p place limit name) h = cc
free_place first opened past (Met place) h = cc
free_place first opened past (NoUp place miss) h = cc
free_place first opened past _ h = refl

pub free_over : (past : List Entry) (e : Entry) → moves_links e ≡ false → is_over_link past e ≡ true
free_over past (Up p place limit name) h = cc
free_over past _ h = refl

pub free_name : (o : Origins) (z : Setting) (past : List Entry) (e : Entry) → moves_links e ≡ false → IsNamed o z past e
free_name o z past (Up p place limit name) h = cc
free_name o z past _ h = tt

pub free_cause : (ways : Ways) (z : Setting) (h : List (Turn Entry)) (back : FinMap nat_cmp LinkView) (past : List Entry) (e : Entry) → moves_links e ≡ false → HasCause ways z h back past e
free_cause ways z h back past (NoUp place miss) n = cc
free_cause ways z h back past _ n = tt

-- a link that is not in progress has no further ticks
abbrev pub Rests : ℕ → ℕ → List Entry → Type 0
Rests place n past = (has (greeting past) place ≡ false) × (greeting_ticks past place ≡ n)

pub rests_on : (place n : ℕ) (e : Entry) (past : List Entry) → moves_links e ≡ false → Rests place n past → Rests place n (e ∷ past)
rests_on place n (Up p other limit name) past h r = cc
rests_on place n (Met other) past h r = cc
rests_on place n (NoUp other miss) past h r = cc
rests_on place n (Tick t due) past h r = (r.0, rw r.0 r.1)
rests_on place n _ past h r = r

-- ---- A pipe that is back

went_down_over : (framing : Framing) (z : Setting) (max : ℕ) (old new : List Entry) (p : ℕ) (why : Why) (link : LinkView) → frames new p ≡ frames old p → last_is_malformed z new p ≡ last_is_malformed z old p → WentDownFor framing z max old p why link → WentDownFor framing z max new p why link
went_down_over framing z max old new p whys.Ended link f m x = (x.0, rw f x.1)
went_down_over framing z max old new p whys.Failed link f m x = x
went_down_over framing z max old new p whys.Malformed link f m (inl x) = inl (m ∙ x)
went_down_over framing z max old new p whys.Malformed link f m (inr x) = inr (x.0, rw f x.1)
went_down_over framing z max old new p whys.Refusal link f m x = x
went_down_over framing z max old new p whys.Closed link f m x = tt
went_down_over framing z max old new p whys.NoMemory link f m x = tt

module _ (z : Setting) (h turns : List (Turn Entry)) where
  pub carried_over : (o : Origins) (p : ℕ) (link : LinkView) → SameOfPipe p (past_of h) (past_of (h ++ turns)) → last_is_malformed z (past_of (h ++ turns)) p ≡ last_is_malformed z (past_of h) p → is_cleared (past_of (h ++ turns)) p ≡ is_cleared (past_of h) p → HasCarried o z h p link → HasCarried o z (h ++ turns) p link
  carried_over o p link s m cl c =
      record {
        max = c.max;
        limit = s.limit ∙ c.limit;
        limit_is = c.limit_is;
        opened = c.opened;
        carries = λ framing under. let k = c.carries framing under in record { came = subst (λ (fs : List (List ℕ)). Told link.came (λ came. IsPrefix (stream_text framing (peer_number z.role) fs) came)) (sym s.frames) k.came; written = subst (λ (os : List (List ℕ)). Told link.written (λ written. IsPrefix written (stream_text framing (role_number z.role) os))) (sym s.outs) k.written };
        went_down = λ framing under why d. went_down_over framing z c.max (past_of h) (past_of (h ++ turns)) p why link s.frames m (c.went_down framing under why (sym s.cause ∙ d));
        whole = λ framing under e. subst (λ (os : List (List ℕ)). Told link.written (λ written. written ≡ stream_text framing (role_number z.role) os)) (sym s.outs) (c.whole framing under (sym cl ∙ e));
        read = λ rises. let r = c.read rises in let i = idle_same p h turns s.quiets in let n = ap length s.frames in omega (arith, r, i, n);
      }

  is_more : past_of (h ++ turns) ≡ past_from (past_of h) turns
  is_more = past_of_more [] h turns

  refused_still : (place : ℕ) → WasRefused z h place → WasRefused z (h ++ turns) place
  refused_still place (early, late, is, g, r) = (early, late ++ turns, ap (λ (x : List (Turn Entry)). x ++ turns) is ∙ append_assoc early late turns, g, r)

  pub missed_still : (ways : Ways) (past : List Entry) (place : ℕ) (miss : Miss) (link : LinkView) (way : ways.Way) → MissedFor ways z h past place miss link way → MissedFor ways z (h ++ turns) past place miss link way
  missed_still ways past place misses.Bad link way x = x
  missed_still ways past place misses.Ended link way x = x
  missed_still ways past place misses.Failed link way x = x
  missed_still ways past place misses.Late link way x = x
  missed_still ways past place misses.Refused link way x = refused_still place x
  missed_still ways past place misses.NoMemory link way x = x

  pub cause_still : (ways : Ways) (back : FinMap nat_cmp LinkView) (past : List Entry) (e : Entry) → HasCause ways z h back past e → HasCause ways z (h ++ turns) back past e
  cause_still ways back past (NoUp place miss) (link, is, (way, of, m)) = (link, is, (way, of, missed_still ways past place miss link way m))
  cause_still ways back past _ x = tt

  -- ---- With turns that leave the links

  module _ (none : NoneIn moves_links turns) where
    pub greeting_is : greeting (past_of (h ++ turns)) ≡ greeting (past_of h)
    greeting_is = ap greeting is_more ∙ turns_leave moves_links greeting same_greeting turns (past_of h) none

    pub met_is : (place : ℕ) → met_at (past_of (h ++ turns)) place ≡ met_at (past_of h) place
    met_is place = ap (λ (p : List Entry). met_at p place) is_more ∙ turns_leave moves_links (λ (p : List Entry). met_at p place) (same_met place) turns (past_of h) none

    pub place_is : (p : ℕ) → place_of (past_of (h ++ turns)) p ≡ place_of (past_of h) p
    place_is p = ap (λ (x : List Entry). place_of x p) is_more ∙ turns_leave moves_links (λ (x : List Entry). place_of x p) (same_place p) turns (past_of h) none

    pub rests : (place : ℕ) → has (greeting (past_of h)) place ≡ false → greeting_ticks (past_of (h ++ turns)) place ≡ greeting_ticks (past_of h) place
    rests place g = ap (λ (x : List Entry). greeting_ticks x place) is_more ∙ (turns_keep moves_links (Rests place (greeting_ticks (past_of h) place)) (rests_on place (greeting_ticks (past_of h) place)) turns (past_of h) none (g, refl)).1

    asked_still : (place : ℕ) (link : LinkView) → has (greeting (past_of h)) place ≡ false → IsAsked (past_of h) place link → IsAsked (past_of (h ++ turns)) place link
    asked_still place link g a i s = let b = a i s in let c = rests place g in omega (arith, b, c)

    held_still : (p : ℕ) → IsHeld (past_of h) p → IsHeld (past_of (h ++ turns)) p
    held_still p x = subst (λ (past : List Entry). IsHeld past p) (sym is_more) (turns_keep moves_links (λ (past : List Entry). IsHeld past p) (held_on p) turns (past_of h) none x)

    module _ (start : Beginning) (net : NetView) (k : LinksKept z start h net) (l : Legal z h) (m : LegalFrom z (past_of h) turns) where
      silent : (p place : ℕ) → place_of (past_of h) p ≡ Some place → has (up (past_of h)) p ≡ false → SameOfPipe p (past_of h) (past_of (h ++ turns))
      silent p place e off = subst (λ (past : List Entry). SameOfPipe p (past_of h) past) (sym is_more) (down_is_silent z (past_of h) turns p m (numbered z (past_of h) p place (legal_allowed z h l) e) off)

      somewhere : (place : ℕ) → IsSomewhere net (past_of h) place → IsSomewhere net (past_of (h ++ turns)) place
      somewhere place (inl g) = inl (ap (λ (xs : List ℕ). has xs place) greeting_is ∙ g)
      somewhere place (inr (inl p)) = inr (inl (p.0, place_is p.0 ∙ p.1))
      somewhere place (inr (inr b)) = go (has (greeting (past_of h)) place) refl
        where
          go : (t : Bool) → has (greeting (past_of h)) place ≡ t → IsSomewhere net (past_of (h ++ turns)) place
          go true g = inl (ap (λ (xs : List ℕ). has xs place) greeting_is ∙ g)
          go false g = inr (inr (b.0, b.1, (b.2.0, asked_still place b.0 g b.2.1)))

      held : (p place : ℕ) → IsHeld (past_of h) p → IsCarried start.origins z (h ++ turns) net p place
      held p place x = go (held_still p x)
        where
          go : IsHeld (past_of (h ++ turns)) p → IsCarried start.origins z (h ++ turns) net p place
          go (inl y) = inl y
          go (inr y) = inr (inl y)

      carried : (p place : ℕ) → place_of (past_of h) p ≡ Some place → IsCarried start.origins z h net p place → IsCarried start.origins z (h ++ turns) net p place
      carried p place e (inl x) = held p place (inl x)
      carried p place e (inr (inl x)) = held p place (inr x)
      carried p place e (inr (inr b)) = go (has (up (past_of h)) p) refl
        where
          g : has (greeting (past_of h)) place ≡ false
          g = passed start.net.opened net.opened (past_of h) p place k.in_place k.few e

          later : IsAskedIn (past_of h) place b.0 → IsAskedIn (past_of (h ++ turns)) place b.0
          later a few = asked_still place b.0 g (a (let n = ticks_grow turns (past_of h) in let f : length (ticks (past_from (past_of h) turns)) < 2 ^ 64 = subst (λ (x : List Entry). length (ticks x) < 2 ^ 64) is_more few in omega arith))

          go : (t : Bool) → has (up (past_of h)) p ≡ t → IsCarried start.origins z (h ++ turns) net p place
          go true on = held p place (inl on)
          go false off =
              let s = silent p place e off in
              let bad : last_is_malformed z (past_of (h ++ turns)) p ≡ last_is_malformed z (past_of h) p = ap (λ (x : List Entry). last_is_malformed z x p) is_more ∙ malformed_same z p turns (past_of h) (subst (λ (x : List Entry). frames x p ≡ frames (past_of h) p) is_more s.frames) in
              let cl : is_cleared (past_of (h ++ turns)) p ≡ is_cleared (past_of h) p = ap (λ (x : List Entry). is_cleared x p) is_more ∙ stays_cleared z (past_of h) turns p m (numbered z (past_of h) p place (legal_allowed z h l) e) off in
              inr (inr (b.0, b.1, (b.2.0, later b.2.1, carried_over start.origins p b.0 s bad cl b.2.2)))

      pub kept : LinksKept z start (h ++ turns) net
      kept =
          record {
            opened = k.opened;
            few = k.few;
            in_place = subst (λ (x : List Entry). IsTrue (each (keeps_places start.net.opened net.opened) x)) (sym is_more) (each_goes_on moves_links (keeps_places start.net.opened net.opened) (free_place start.net.opened net.opened) turns (past_of h) none k.in_place);
            over_links = subst (λ (x : List Entry). IsTrue (each is_over_link x)) (sym is_more) (each_goes_on moves_links is_over_link free_over turns (past_of h) none k.over_links);
            named = subst (λ (x : List Entry). Each (IsNamed start.origins z) x) (sym is_more) (all_goes_on moves_links (IsNamed start.origins z) (free_name start.origins z) turns (past_of h) none k.named);
            met = λ place a b. ap is_some (met_is place) ∙ k.met place a b;
            somewhere = λ place a b. somewhere place (k.somewhere place a b);
            missed = subst (λ (x : List Entry). Each (HasCause (run_ways z.role start.origins) z (h ++ turns) net.back) x) (sym is_more) (all_goes_on moves_links (HasCause (run_ways z.role start.origins) z (h ++ turns) net.back) (free_cause (run_ways z.role start.origins) z (h ++ turns) net.back) turns (past_of h) none (each_mapped (HasCause (run_ways z.role start.origins) z h net.back) (HasCause (run_ways z.role start.origins) z (h ++ turns) net.back) (cause_still (run_ways z.role start.origins) net.back) (past_of h) k.missed));
            carried = λ p place e n. let old : place_of (past_of h) p ≡ Some place = sym (place_is p) ∙ e in carried p place old (k.carried p place old n);
            others = k.others;
          }

legal_both : (z : Setting) (past : List Entry) (h turns : List (Turn Entry)) → LegalFrom z past (h ++ turns) → LegalFrom z past h × LegalFrom z (past_from past h) turns
legal_both z past [] turns l = (tt, l)
legal_both z past (t ∷ h) turns l = let b = legal_both z (onto t.entries past) h turns l.1 in ((l.0, b.0), b.1)

-- the further turns are legal where the history with them is
pub legal_rest : (z : Setting) (h turns : List (Turn Entry)) → Legal z (h ++ turns) → Legal z h × LegalFrom z (past_of h) turns
legal_rest z h turns l = legal_both z [] h turns l
