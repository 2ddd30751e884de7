-- All addresses of a run that are due are dialed.
use Rattle.std.proofs.Common.{◌≡◌, ◌≤◌, ◌<◌, ◌+◌, ◌*◌, ◌++◌, ◌∷◌, ℕ, zero, suc, Bool, true, false, cond, List, [], length, Option, Some, None, refl, sym, ap, subst, ◌∙◌, arith, inl, inr, slice_get, get_or, take, add-one}
use Rattle.std.specs.Prelude.{◌^◌, ◌-◌, is_none}
use Rattle.std.proofs.lemmas.Bool.Decides.{nat_tests}
use Rattle.std.specs.List.{AllByRecursion}
use Rattle.sp_base.specs.Views.{LinkView, NetView}
use Rattle.sp_history.specs.Found.{ticks, last_tick, before_last_tick, AreOrdered}
use Rattle.sp_history.specs.Past.{past_of}
use Rattle.sp_history.proofs.Backing.{legal_allowed}
use Rattle.sp_history.proofs.StandingEntries.{last_is_now, ticks_in_order}
use Rattle.sp_ends.specs.LinkCounts.{CanRise, ticks_where, has_room, spaced_from}
use Rattle.sp_socket.specs.Singles.{SingleView}
use Rattle.sp_ends.specs.declared.dialer.Dialer.{Dialer}
use Rattle.sp_ends.specs.declared.newcomer.Newcomer.{Newcomer}
use Rattle.sp_ends.specs.DialMoments.{IsDueAt, is_due_at, is_due}
use Rattle.sp_ends.specs.Dialing.{IsDialed, IsDialable, next_from, last_of, IsDueFrom}
use Rattle.sp_ends.proofs.NewcomingMoments.{last_before}
use Rattle.sp_ends.specs.EndViews.{Beginning, LinkEndsView}
use Rattle.sp_ends.specs.RunLinks.{NetStands, IsListener, sum_of, tries_of}
use Rattle.sp_ends.specs.Freeing.{IsDue, FreesOne, GotBack, Redials, KnowsLinks, AreSameDialers}
use Rattle.sp_ends.specs.SocketSteps.{Quietly, NoLane, IsDry}
use Rattle.sp_ends.specs.EndsTurns.{InTurn, SameEnds, AsksNet, AsksDue, dues_of, DialsAt, AreYoung, AreWaitingBehind}
use Rattle.sp_ends.proofs.LinkPlaces.{left_of, right_of}
use Rattle.sp_ends.proofs.TurnParts.{same_dialers, dials_long, ends_none, ends_both}
use Rattle.sp_ends.proofs.Turns.{quiet_both, quiet_none, quiet_ticks, quiet_where, lanes_both, lanes_none}
use Rattle.sp_ends.proofs.ListReads.{at_index}
use Rattle.sp_ends.proofs.NewcomingAsks.{ticks_last, listens_still}
use Rattle.sp_ends.proofs.NewcomingDials.{dials_tries}
use Rattle.sp_ends.specs.Listening.{dialed_of, KeepsOwn, KeepsFrom}
use Rattle.sp_ends.proofs.Owned.{own_none, dialed_one}
use Rattle.sp_ends.proofs.FreedDialers.{got_none, got_both, same_all, TurnedTo, turned_due, turned_not_due}
use Rattle.sp_ends.proofs.DialedLinks.{knows_none, knows_next}
use Rattle.sp_ends.proofs.NewcomingDue.{DialedTo, next_dialed, next_not_due, all_dialed, dialable_at}

-- ---- All of them

-- the tick of the turn is the last
ticks_at : {L : Type 0} (seen : L → LinkView) (start : Beginning) (ends : LinkEndsView L) (net : NetView) (s : SingleView) (t k : ℕ) → InTurn seen start ends net s t k → ticks (past_of s.seen) ≡ ticks (before_last_tick (past_of s.seen)) ++ t ∷ []
ticks_at seen start ends net s t k i =
    let last : t ≡ last_tick (past_of s.seen) = i.now_is ∙ last_is_now s.setting (past_of s.seen) (legal_allowed s.setting s.seen i.sound.legal) in
    ticks_last (past_of s.seen) i.ticked ∙ ap (λ (m : ℕ). ticks (before_last_tick (past_of s.seen)) ++ m ∷ []) (sym last)

-- no tick before it is later
order_at : {L : Type 0} (seen : L → LinkView) (start : Beginning) (ends : LinkEndsView L) (net : NetView) (s : SingleView) (t k : ℕ) → InTurn seen start ends net s t k → last_of 0 (ticks (before_last_tick (past_of s.seen))) ≤ t
order_at seen start ends net s t k i =
    last_before 0 (ticks (before_last_tick (past_of s.seen))) t (omega arith) (subst AreOrdered (ticks_at seen start ends net s t k i) (ticks_in_order s.setting (past_of s.seen) (legal_allowed s.setting s.seen i.sound.legal)))

-- the one at this place
pub is_there : (xs ds : List Dialer) (i : ℕ) (d q : Dialer) → xs ≡ ds → i < length ds → d ≡ get_or xs i d → slice_get ds i ≡ Some q → d ≡ q
is_there xs ds i d q e lt is at =
    let here = at_index xs ds i d e lt is in
    let both : Some d ≡ Some q = sym here ∙ at in cc

-- ---- How many were due

is_due_so : (t : ℕ) (d : Dialer) → is_due t d ≡ true → IsDue t d
is_due_so t d e = (none_is d.place (left_of (is_none d.place) (is_due_at d.next t) e), at_is d.next (right_of (is_none d.place) (is_due_at d.next t) e))
  where
    none_is : (o : Option ℕ) → is_none o ≡ true → o ≡ None
    none_is None h = refl
    none_is (Some n) h = cc

    at_is : (o : Option ℕ) → is_due_at o t ≡ true → IsDueAt o t
    at_is None h = cc
    at_is (Some n) h = grind (arith, nat_tests)

dues_at : (t m n : ℕ) (ds : List Dialer) → m ≡ n → dues_of t (take m ds) ≡ dues_of t (take n ds)
dues_at t m n ds e = ap (λ (k : ℕ). dues_of t (take k ds)) e

dues_none : (t : ℕ) (ds : List Dialer) → dues_of t (take 0 ds) ≡ 0
dues_none t [] = refl
dues_none t (d ∷ ds) = refl

-- of one, at most one is due
dues_one : (t i : ℕ) (ds : List Dialer) → dues_of t (take (suc i) ds) ≤ dues_of t (take i ds) + 1
dues_one t zero [] = omega arith
dues_one t zero (d ∷ ds) = go (is_due t d)
  where
    go : (b : Bool) → cond b (0 + 1) 0 ≤ 0 + 1
    go true = omega arith
    go false = omega arith
dues_one t (suc i) [] = omega arith
dues_one t (suc i) (d ∷ ds) = go (is_due t d) (dues_one t i ds)
  where
    go : (b : Bool) → dues_of t (take (suc i) ds) ≤ dues_of t (take i ds) + 1 → cond b (dues_of t (take (suc i) ds) + 1) (dues_of t (take (suc i) ds)) ≤ cond b (dues_of t (take i ds) + 1) (dues_of t (take i ds)) + 1
    go true l = omega (arith, l)
    go false l = omega (arith, l)

-- none is due of a dialer that is no longer due, since it was not dialed
dues_waiting : (t : ℕ) (a b : NetView) (i : ℕ) (ds es : List Dialer) → TurnedTo i t a b ds es → ((q : Dialer) → slice_get es i ≡ Some q → IsDue t q → ⊥) → dues_of t (take (suc i) ds) ≤ dues_of t (take i ds)
dues_waiting t a b zero [] es x never = omega arith
dues_waiting t a b zero (d ∷ ds) [] x never = absurd x
dues_waiting t a b zero (d ∷ ds) (e ∷ es) x never = go (is_due t d) refl x.0
  where
    go : (u : Bool) → is_due t d ≡ u → FreesOne t a b d e → cond u (0 + 1) 0 ≤ 0
    go false f y = omega arith
    go true f (inl y) = absurd (never e refl (subst (IsDue t) (sym y.0) (is_due_so t d f)))
    go true f (inr y) = let no : None ≡ Some y.0 = sym (is_due_so t d f).0 ∙ y.1 in cc
dues_waiting t a b (suc i) [] es x never = omega arith
dues_waiting t a b (suc i) (d ∷ ds) [] x never = absurd x
dues_waiting t a b (suc i) (d ∷ ds) (e ∷ es) x never = go (is_due t d) (dues_waiting t a b i ds es x.2 never)
  where
    go : (u : Bool) → dues_of t (take (suc i) ds) ≤ dues_of t (take i ds) → cond u (dues_of t (take (suc i) ds) + 1) (dues_of t (take (suc i) ds)) ≤ cond u (dues_of t (take i ds) + 1) (dues_of t (take i ds))
    go true l = omega (arith, l)
    go false l = l

dues_whole : (t i : ℕ) (ds : List Dialer) → length ds ≤ i → dues_of t (take i ds) ≡ dues_of t ds
dues_whole t zero [] l = refl
dues_whole t zero (d ∷ ds) l = absurd (omega (arith, l))
dues_whole t (suc i) [] l = refl
dues_whole t (suc i) (d ∷ ds) l = ap (λ (n : ℕ). cond (is_due t d) (n + 1) n) (dues_whole t i ds (omega (arith, l)))

-- those that have lost their links were not due
pub dues_same : (t : ℕ) (ds es : List Dialer) → AreSameDialers ds es → dues_of t ds ≤ dues_of t es
dues_same t [] [] s = omega arith
dues_same t [] (e ∷ es) s = absurd s
dues_same t (d ∷ ds) [] s = absurd s
dues_same t (d ∷ ds) (e ∷ es) s = go (is_due t d) refl (is_due t e) refl (dues_same t ds es s.1)
  where
    go : (u : Bool) → is_due t d ≡ u → (v : Bool) → is_due t e ≡ v → dues_of t ds ≤ dues_of t es → cond u (dues_of t ds + 1) (dues_of t ds) ≤ cond v (dues_of t es + 1) (dues_of t es)
    go true f true g l = omega (arith, l)
    go false f true g l = omega (arith, l)
    go false f false g l = l
    go true f false g l = let same = s.0.free (is_due_so t d f).0 in let no : true ≡ false = sym f ∙ (ap (is_due t) (sym same) ∙ g) in cc

pub record Dialing {L : Type 0} (seen : L → LinkView) (i : ℕ) (old new : LinkEndsView L) (net net' : NetView) (a b : SingleView) (t : ℕ) (is_dry : Bool) : Type 0 where
  pub in_turn : (start : Beginning) → InTurn seen start old net a t 0 → InTurn seen start new net' b t 0
  pub ends : SameEnds old new
  pub quietly : Quietly a b
  pub lanes : NoLane a b
  pub own : KeepsOwn old.newcomers new.newcomers
  pub dialed : dialed_of new.newcomers ≤ dialed_of old.newcomers + i
  pub dry : IsDry is_dry b
  pub listens : net'.listens ≡ net.listens
  pub opened : net.opened ≤ net'.opened
  pub idles : net.idles ≤ net'.idles
  pub faults : net.faults ≤ net'.faults
  pub lengths : length new.dialers ≡ length old.dialers
  pub dialers : (start : Beginning) → InTurn seen start old net a t 0 → AllByRecursion (IsDialed (net.opened ≡ start.net.opened) (before_last_tick (past_of a.seen))) old.dialers → DialedTo (past_of a.seen) i (net'.opened ≡ start.net.opened) old.dialers new.dialers
  pub rose : CanRise net'.idles → CanRise net'.faults → sum_of net + tries_of new.dialers ≤ sum_of net' + tries_of old.dialers
  pub due : CanRise net'.idles → CanRise net'.faults → sum_of net + dues_of t (take i old.dialers) ≤ sum_of net'
  pub got : GotBack net net'
  pub turned : TurnedTo i t net net' old.dialers new.dialers
  pub knows : KnowsLinks net.opened net' new.dialers
  pub young : AreYoung t 0 old.newcomers → AreYoung t 0 new.newcomers
  pub waited : (first : List (Newcomer L)) (opened : ℕ) → opened ≤ net.opened → AreWaitingBehind seen first opened 0 old.newcomers → AreWaitingBehind seen first opened 0 new.newcomers

module _ {L : Type 0} (seen : L → LinkView) where
  pub dialing_first : (ends : LinkEndsView L) (net : NetView) (a : SingleView) (t : ℕ) (is_dry : Bool) → IsDry is_dry a → Dialing seen 0 ends ends net net a a t is_dry
  dialing_first ends net a t is_dry dry = record {
    in_turn = λ start i. i;
    ends = ends_none ends;
    quietly = quiet_none a;
    lanes = lanes_none a;
    own = λ k. refl;
    dialed = omega arith;
    dry = dry;
    listens = refl;
    opened = omega arith;
    idles = omega arith;
    faults = omega arith;
    lengths = refl;
    dialers = λ start i all. same_dialers ends.dialers;
    rose = λ x y. omega arith;
    due = λ x y. let none = dues_none t ends.dialers in omega (arith, none);
    got = got_none net net (omega arith) refl;
    turned = same_all t net net ends.dialers refl;
    knows = knows_none net.opened net ends.dialers (omega arith);
    young = λ a. a;
    waited = λ first opened le a. a;
  }

  module _ (i : ℕ) (old mid : LinkEndsView L) (net net1 : NetView) (a b : SingleView) (t : ℕ) (fits : t ≤ 2 ^ 64 - 1) (d : Bool) (was : Dialing seen i old mid net net1 a b t d) where
    same_first : (start : Beginning) → InTurn seen start old net a t 0 → net1.opened ≡ start.net.opened → net.opened ≡ start.net.opened
    same_first start x e = omega (arith, e, was.opened, x.links.kept.opened)

    pub dialing_waits : ((e : Dialer) → slice_get mid.dialers i ≡ Some e → IsDue t e → ⊥) → Dialing seen (i + 1) old mid net net1 a b t d
    dialing_waits no_due = record {
      in_turn = was.in_turn;
      ends = was.ends;
      quietly = was.quietly;
      lanes = was.lanes;
      own = was.own;
      dialed = omega (arith, was.dialed);
      dry = was.dry;
      listens = was.listens;
      opened = was.opened;
      idles = was.idles;
      faults = was.faults;
      lengths = was.lengths;
      dialers = λ start x all. subst (λ (k : ℕ). DialedTo (past_of a.seen) k (net1.opened ≡ start.net.opened) old.dialers mid.dialers) (sym (add-one i)) (next_not_due (past_of a.seen) (before_last_tick (past_of a.seen)) t (ticks_at seen start old net a t 0 x) fits (order_at seen start old net a t 0 x) i (net.opened ≡ start.net.opened) (net1.opened ≡ start.net.opened) old.dialers mid.dialers all (was.dialers start x all) (same_first start x) no_due);
      rose = was.rose;
      due = λ x y. let r = was.due x y in let d = dues_waiting t net net1 i old.dialers mid.dialers was.turned no_due in let e = dues_at t (i + 1) (suc i) old.dialers (add-one i) in omega (arith, r, d, e);
      got = was.got;
      turned = subst (λ (k : ℕ). TurnedTo k t net net1 old.dialers mid.dialers) (sym (add-one i)) (turned_not_due t net net1 i old.dialers mid.dialers was.turned no_due);
      knows = was.knows;
      young = was.young;
      waited = was.waited;
    }

    pub dialing_next : (new : LinkEndsView L) (net2 : NetView) (c : SingleView) (e : Bool) → ((q : Dialer) → slice_get mid.dialers i ≡ Some q → IsDue t q)
        → ((start : Beginning) → InTurn seen start mid net1 b t 0 → InTurn seen start new net2 c t 0) → AsksNet net1 net2 → DialsAt i t net1 net2 mid.dialers new.dialers → Redials i t net1 net2 mid.dialers new.dialers → Quietly b c → NoLane b c → KeepsFrom None mid.newcomers new.newcomers → SameEnds mid new → IsDry e c
        → KnowsLinks net1.opened net2 new.dialers → (AreYoung t 0 mid.newcomers → AreYoung t 0 new.newcomers)
        → ((first : List (Newcomer L)) (opened : ℕ) → opened ≤ net1.opened → AreWaitingBehind seen first opened 0 mid.newcomers → AreWaitingBehind seen first opened 0 new.newcomers) → Dialing seen (i + 1) old new net net2 a c t e
    dialing_next new net2 c e due in_turn asks dials redials quietly lanes few same dry known young waited = record {
      in_turn = λ start x. in_turn start (was.in_turn start x);
      ends = ends_both old mid new was.ends same;
      quietly = quiet_both a b c was.quietly quietly;
      lanes = lanes_both a b c was.lanes lanes;
      own = λ k. own_none k mid.newcomers new.newcomers few ∙ was.own k;
      dialed = omega (arith, was.dialed, dialed_one None mid.newcomers new.newcomers few);
      dry = dry;
      listens = asks.listens ∙ was.listens;
      opened = omega (arith, asks.opened, was.opened);
      idles = omega (arith, asks.idles, was.idles);
      faults = omega (arith, asks.faults, was.faults);
      lengths = dials_long i t (net2.opened ≡ net1.opened) mid.dialers new.dialers dials ∙ was.lengths;
      dialers = λ start x all. subst (λ (k : ℕ). DialedTo (past_of a.seen) k (net2.opened ≡ start.net.opened) old.dialers new.dialers) (sym (add-one i)) (next_dialed (past_of a.seen) (before_last_tick (past_of a.seen)) t (ticks_at seen start old net a t 0 x) fits (order_at seen start old net a t 0 x) i (net.opened ≡ start.net.opened) (net1.opened ≡ start.net.opened) (net2.opened ≡ net1.opened) (net2.opened ≡ start.net.opened)
          old.dialers mid.dialers new.dialers all (was.dialers start x all) dials
          (λ m. omega (arith, m, was.opened, asks.opened, x.links.kept.opened)) (λ m. omega (arith, m, was.opened, asks.opened, x.links.kept.opened)) (λ m. omega (arith, m, was.opened, asks.opened, x.links.kept.opened)) due);
      rose = λ x y.
          let before = was.rose (omega (arith, x, asks.idles)) (omega (arith, y, asks.faults)) in
          let after = asks.rose x y in
          let tr = dials_tries i t (net2.opened ≡ net1.opened) mid.dialers new.dialers dials in omega (arith, before, after, tr);
      due = λ x y.
          let before = was.due (omega (arith, x, asks.idles)) (omega (arith, y, asks.faults)) in
          let after = asks.rose x y in
          let d = dues_one t i old.dialers in let e = dues_at t (i + 1) (suc i) old.dialers (add-one i) in omega (arith, before, after, d, e);
      got = got_both net net1 net2 was.got redials.net;
      turned = subst (λ (k : ℕ). TurnedTo k t net net2 old.dialers new.dialers) (sym (add-one i)) (turned_due t net net1 net2 was.got redials.net i old.dialers mid.dialers new.dialers was.turned redials.dialers due);
      knows = knows_next net.opened i t net1 net2 mid.dialers new.dialers was.knows redials.net redials.dialers due known;
      young = λ x. young (was.young x);
      waited = λ first opened le x. waited first opened (omega (arith, le, was.opened)) (was.waited first opened le x);
    }

    pub dialable_here : (start : Beginning) → InTurn seen start old net a t 0 → AllByRecursion (IsDialed (net.opened ≡ start.net.opened) (before_last_tick (past_of a.seen))) old.dialers → (e : Dialer) → slice_get mid.dialers i ≡ Some e → IsDialable e.addr
    dialable_here start x all e at = dialable_at (past_of a.seen) (before_last_tick (past_of a.seen)) t (ticks_at seen start old net a t 0 x) fits (order_at seen start old net a t 0 x) i i (net.opened ≡ start.net.opened) (net1.opened ≡ start.net.opened) old.dialers mid.dialers e all (was.dialers start x all) at

    -- after the last of them
    pub dialed_all : (start : Beginning) → InTurn seen start old net a t 0 → length old.dialers ≤ i
        → NetStands start (past_of a.seen) (before_last_tick (past_of a.seen)) net old.listeners old.dialers → NetStands start (past_of b.seen) (past_of b.seen) net1 mid.listeners mid.dialers
    dialed_all start x ended stands = record {
      few = omega (arith, stands.few, ap length was.ends.listeners, was.lengths);
      listens = subst (AllByRecursion (IsListener net1)) (sym was.ends.listeners) (listens_still seen net net1 old.listeners was.listens stands.listens);
      dials = now_all (all_dialed (past_of a.seen) (before_last_tick (past_of a.seen)) t t_is fits (order_at seen start old net a t 0 x) i (net1.opened ≡ start.net.opened) old.dialers mid.dialers to ended);
      first = λ e. let some = subst (λ (ts : List ℕ). 0 < length ts) (sym (quiet_ticks a b was.quietly) ∙ e) x.ticked in absurd (omega (arith, some));
      idles = omega (arith, stands.idles, was.idles);
      faults = omega (arith, stands.faults, was.faults);
      rose = λ r s.
          let before = stands.rose (omega (arith, r, was.idles)) (omega (arith, s, was.faults)) in
          let after = was.rose r s in
          let w = quiet_where has_room a b was.quietly in
          subst (λ (k : ℕ). sum_of start.net + k + tries_of mid.dialers ≤ sum_of net1) (ap (λ (m : ℕ). length old.listeners * m) (sym w) ∙ ap (λ (k : ℕ). k * ticks_where has_room (past_of b.seen)) (sym (ap length was.ends.listeners))) (omega (arith, before, after));
    }
      where
        t_is : ticks (past_of a.seen) ≡ ticks (before_last_tick (past_of a.seen)) ++ t ∷ []
        t_is = ticks_at seen start old net a t 0 x

        to : DialedTo (past_of a.seen) i (net1.opened ≡ start.net.opened) old.dialers mid.dialers
        to = was.dialers start x stands.dials

        now_all : AllByRecursion (IsDialed (net1.opened ≡ start.net.opened) (past_of a.seen)) mid.dialers → AllByRecursion (IsDialed (net1.opened ≡ start.net.opened) (past_of b.seen)) mid.dialers
        now_all all = mapped mid.dialers all
          where
            q : ticks (past_of b.seen) ≡ ticks (past_of a.seen)
            q = quiet_ticks a b was.quietly

            mapped : (ds : List Dialer) → AllByRecursion (IsDialed (net1.opened ≡ start.net.opened) (past_of a.seen)) ds → AllByRecursion (IsDialed (net1.opened ≡ start.net.opened) (past_of b.seen)) ds
            mapped [] h = tt
            mapped (d ∷ ds) h = (record { dialable = h.0.dialable; free = h.0.free; soon = λ m. subst (λ ts. IsDueFrom (last_of 0 ts + 100) d.next) (sym q) (h.0.soon m); next = λ m l few. subst (λ ts. IsDueFrom (next_from 0 ts) d.next) (sym q) (h.0.next m (subst (λ ts. length ts < 2 ^ 64) q l) (subst (λ ts. d.tries ≤ length (spaced_from 0 ts)) q few)); tries = λ m l. subst (λ ts. length (spaced_from 0 ts) ≤ d.tries) (sym q) (h.0.tries m (subst (λ ts. length ts < 2 ^ 64) q l)); once = λ l. h.0.once (subst (λ ts. 0 < length ts) q l); begun = λ e. h.0.begun (sym q ∙ e) }, mapped ds h.1)

    -- each that was due was dialed
    pub due_all : length old.dialers ≤ i → AsksDue t old.dialers net net1
    due_all ended x y = let r = was.due x y in let e = dues_whole t i old.dialers ended in omega (arith, r, e)
