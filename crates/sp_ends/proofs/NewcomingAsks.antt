-- What asking listeners and dialing addresses, one after another, leaves.
use Rattle.std.proofs.Common.{◌≡◌, ◌≤◌, ◌<◌, ◌+◌, ◌*◌, ◌++◌, ◌∷◌, ℕ, zero, suc, Bool, true, false, cond, List, [], length, Some, refl, sym, ap, subst, ◌∙◌, arith, inl, inr, slice_get, add-one, eqb-true}
use Rattle.std.specs.Prelude.{◌⊎◌, ◌-◌}
use Rattle.std.specs.List.{AllByRecursion}
use Rattle.std.specs.FinMap.{get}
use Rattle.sp_base.specs.Views.{LinkView, NetView}
use Rattle.sp_history.specs.declared.entry.Entry.{Entry}
use Rattle.sp_history.specs.declared.entry.Entry.TheVariants.{Tick}
use Rattle.sp_history.specs.Found.{ticks, last_tick, before_last_tick}
use Rattle.sp_history.specs.Past.{past_of}
use Rattle.sp_socket.specs.Singles.{SingleView}
use Rattle.sp_ends.specs.LinkCounts.{CanRise, ticks_where, has_room}
use Rattle.sp_ends.specs.declared.listener.Listener.{Listener}
use Rattle.sp_ends.specs.declared.dialer.Dialer.{Dialer}
use Rattle.sp_ends.specs.declared.newcomer.Newcomer.{Newcomer}
use Rattle.sp_ends.specs.Dialing.{IsDialed, IsDialable, next_from, last_of, IsDueFrom}
use Rattle.sp_ends.specs.EndViews.{Beginning, LinkEndsView}
use Rattle.sp_ends.specs.RunLinks.{NetStands, IsListener, sum_of, tries_of}
use Rattle.sp_ends.specs.Freeing.{Frees, AreSameDialers}
use Rattle.sp_ends.specs.SocketSteps.{Quietly, NoLane, IsDry}
use Rattle.sp_ends.specs.Listening.{is_from, own_of, open_of, asks_to, KeepsFrom}
use Rattle.sp_ends.specs.EndsTurns.{InTurn, SameEnds, AsksNet, asks_of, AreYoung, AreWaitingBehind, HasAsked, HasAskedOne, HasAskedTo}
use Rattle.sp_ends.specs.DialerSteps.{IsSameDialer}
use Rattle.sp_ends.proofs.TurnParts.{same_dialers, dialers_both, dialers_long, ends_none, ends_both}
use Rattle.sp_ends.proofs.Turns.{quiet_both, quiet_none, quiet_ticks, quiet_before, quiet_where, lanes_both, lanes_none}
use Rattle.sp_ends.proofs.FreedDialers.{frees_none, frees_both}
use Rattle.sp_ends.proofs.Owned.{one_at_most, other_place, own_other, own_one, own_grown, dialed_same, open_most, open_full, open_step, all_open, asks_most, asks_full, asks_step, asks_less}

-- ---- The last tick

pub where_last : (test : List Entry → Bool) (past : List Entry) → 0 < length (ticks past) → ticks_where test past ≡ cond (test (before_last_tick past)) (ticks_where test (before_last_tick past) + 1) (ticks_where test (before_last_tick past))
where_last test [] h = absurd (omega (arith, h))
where_last test (Tick t due ∷ past) h = refl
where_last test (e ∷ past) h = where_last test past h

pub ticks_last : (past : List Entry) → 0 < length (ticks past) → ticks past ≡ ticks (before_last_tick past) ++ last_tick past ∷ []
ticks_last [] h = absurd (omega (arith, h))
ticks_last (Tick t due ∷ past) h = refl
ticks_last (e ∷ past) h = ticks_last past h

-- ---- Lists

pub at_of : {X : Type 0} (P : X → Type 0) (xs : List X) (i : ℕ) (x : X) → AllByRecursion P xs → slice_get xs i ≡ Some x → P x
at_of P [] i x all e = cc
at_of P (y ∷ ys) zero x all e = let same : y ≡ x = cc in subst P same all.0
at_of P (y ∷ ys) (suc i) x all e = at_of P ys i x all.1 e

pub same_tries : (ds es : List Dialer) → AreSameDialers ds es → tries_of es ≡ tries_of ds
same_tries [] [] s = refl
same_tries (d ∷ ds) (e ∷ es) s = omega (arith, same_tries ds es s.1, s.0.tries)
same_tries [] (e ∷ es) s = absurd s
same_tries (d ∷ ds) [] s = absurd s

dialed_still : (same same' : Type 0) → (same' → same) → (past : List Entry) (d e : Dialer) → IsSameDialer d e → IsDialed same past d → IsDialed same' past e
dialed_still same same' f past d e s i =
    record {
      dialable = subst IsDialable (sym s.addr) i.dialable;
      free = λ x. let n = i.free (f x) in ap (λ (k : Dialer). k.place) (s.free n) ∙ n;
      soon = λ x. subst (IsDueFrom (last_of 0 (ticks past) + 100)) (ap (λ (k : Dialer). k.next) (sym (s.free (i.free (f x))))) (i.soon (f x));
      next = λ x few less. subst (IsDueFrom (next_from 0 (ticks past))) (ap (λ (k : Dialer). k.next) (sym (s.free (i.free (f x))))) (i.next (f x) few (let u = s.tries in omega (arith, less, u)));
      tries = λ x few. let t = i.tries (f x) few in let u = s.tries in omega (arith, t, u);
      begun = λ t. let b = i.begun t in (ap (λ (k : Dialer). k.place) (s.free b.0) ∙ b.0, ap (λ (k : Dialer). k.next) (s.free b.0) ∙ b.1);
      once = λ l. let t = i.once l in let u = s.tries in omega (arith, t, u);
    }

-- dialers that have lost their links were dialed as before
pub all_still : (same same' : Type 0) → (same' → same) → (past : List Entry) (ds es : List Dialer) → AreSameDialers ds es → AllByRecursion (IsDialed same past) ds → AllByRecursion (IsDialed same' past) es
all_still same same' f past [] [] s i = tt
all_still same same' f past (d ∷ ds) (e ∷ es) s i = (dialed_still same same' f past d e s.0 i.0, all_still same same' f past ds es s.1 i.1)
all_still same same' f past [] (e ∷ es) s i = absurd s
all_still same same' f past (d ∷ ds) [] s i = absurd s

twice : (m n : ℕ) → m * (n + 1) ≡ m * n + m
twice m n = grind arith

-- ---- The listeners

module _ {L : Type 0} (seen : L → LinkView) where
  pub asked_none : (first last : ℕ) (ends : LinkEndsView L) (net : NetView) (a : SingleView) (t : ℕ) (is_dry : Bool) → IsDry is_dry a → HasAsked seen first last 0 ends ends net net a a t is_dry
  asked_none first last ends net a t is_dry dry = record {
    in_turn = λ start i. i;
    ends = ends_none ends;
    dialers = same_dialers ends.dialers;
    frees = frees_none t net net ends.dialers ends.dialers (omega arith) refl refl;
    quietly = quiet_none a;
    lanes = lanes_none a;
    dry = dry;
    few = omega arith;
    others = λ k w. refl;
    own = λ k. omega arith;
    dialed = refl;
    held = λ k n l o. o;
    listens = refl;
    opened = omega arith;
    handed = omega arith;
    young = λ a. a;
    waited = λ first opened le a. a;
    idles = omega arith;
    faults = omega arith;
  }

  -- one was asked once
  pub asked_one : (i : ℕ) (old new : LinkEndsView L) (net net' : NetView) (a b : SingleView) (t : ℕ) (e : Bool)
      → ((start : Beginning) → InTurn seen start old net a t 0 → InTurn seen start new net' b t 0) → length new.newcomers + net.opened ≤ length old.newcomers + net'.opened → KeepsFrom (Some i) old.newcomers new.newcomers → AsksNet net net' → AreSameDialers old.dialers new.dialers → Frees t net net' old.dialers new.dialers → Quietly a b → NoLane a b
      → SameEnds old new → IsDry e b → net'.opened ≤ net.opened + 1 → own_of i old.newcomers < 256 → (AreYoung t 0 old.newcomers → AreYoung t 0 new.newcomers)
      → ((first : List (Newcomer L)) (opened : ℕ) → opened ≤ net.opened → AreWaitingBehind seen first opened 0 old.newcomers → AreWaitingBehind seen first opened 0 new.newcomers) → HasAsked seen i (i + 1) 1 old new net net' a b t e
  asked_one i old new net net' a b t e in_turn few kept asks dialers frees quietly lanes same dry handed room young waited = record {
    in_turn = in_turn;
    ends = same;
    dialers = dialers;
    frees = frees;
    quietly = quietly;
    lanes = lanes;
    dry = dry;
    few = few;
    others = λ k w. own_other k (Some i) old.newcomers new.newcomers (other_place i k w) kept;
    own = λ k. let g = own_grown k (Some i) old.newcomers new.newcomers kept in omega (arith, g, few);
    dialed = dialed_same i old.newcomers new.newcomers kept;
    held = λ k n l o. hold k n l o (is_from k (Some i)) refl;
    listens = asks.listens;
    opened = asks.opened;
    handed = handed;
    young = young;
    waited = waited;
    idles = asks.idles;
    faults = asks.faults;
  }
    where
      hold : (k n : ℕ) → 256 ≤ n → own_of k old.newcomers ≤ n → (is : Bool) → is_from k (Some i) ≡ is → own_of k new.newcomers ≤ n
      hold k n l o false off = let w = own_other k (Some i) old.newcomers new.newcomers off kept in omega (arith, w, o)
      hold k n l o true here =
          let same : i ≡ k = eqb-true i k here in
          let less : own_of k old.newcomers < 256 = subst (λ (m : ℕ). own_of m old.newcomers < 256) same room in
          let w = own_one k (Some i) old.newcomers new.newcomers kept in
          let one = one_at_most k (Some i) in omega (arith, w, one, less, l)

  -- one after another
  pub asked_both : (first mid last m n : ℕ) (old half new : LinkEndsView L) (net net1 net2 : NetView) (a b c : SingleView) (t : ℕ) (d e : Bool) → HasAsked seen first mid m old half net net1 a b t d → HasAsked seen mid last n half new net1 net2 b c t e → first ≤ mid → mid ≤ last → HasAsked seen first last (m + n) old new net net2 a c t e
  asked_both first mid last m n old half new net net1 net2 a b c t d e x y le le' = record {
    in_turn = λ start k. y.in_turn start (x.in_turn start k);
    ends = ends_both old half new x.ends y.ends;
    dialers = dialers_both old.dialers half.dialers new.dialers x.dialers y.dialers;
    frees = frees_both t net net1 net2 old.dialers half.dialers new.dialers x.frees y.frees;
    quietly = quiet_both a b c x.quietly y.quietly;
    lanes = lanes_both a b c x.lanes y.lanes;
    dry = y.dry;
    few = omega (arith, x.few, y.few);
    others = λ k w. apart k w;
    own = λ k. let p = x.own k in let q = y.own k in omega (arith, p, q);
    dialed = y.dialed ∙ x.dialed;
    held = λ k n l o. y.held k n l (x.held k n l o);
    listens = y.listens ∙ x.listens;
    opened = omega (arith, x.opened, y.opened);
    handed = omega (arith, x.handed, y.handed);
    young = λ k. y.young (x.young k);
    waited = λ first opened le k. y.waited first opened (omega (arith, le, x.opened)) (x.waited first opened le k);
    idles = omega (arith, x.idles, y.idles);
    faults = omega (arith, x.faults, y.faults);
  }
    where
      apart : (k : ℕ) → (k < first) ⊎ (last ≤ k) → own_of k new.newcomers ≡ own_of k old.newcomers
      apart k (inl lt) = y.others k (inl (omega (arith, lt, le))) ∙ x.others k (inl lt)
      apart k (inr more) = y.others k (inr more) ∙ x.others k (inr (omega (arith, more, le')))

  -- the same one twice
  pub asked_again : (i m n : ℕ) (old half new : LinkEndsView L) (net net1 net2 : NetView) (a b c : SingleView) (t : ℕ) (d e : Bool) → HasAsked seen i (i + 1) m old half net net1 a b t d → HasAsked seen i (i + 1) n half new net1 net2 b c t e → HasAsked seen i (i + 1) (m + n) old new net net2 a c t e
  asked_again i m n old half new net net1 net2 a b c t d e x y = record {
    in_turn = λ start k. y.in_turn start (x.in_turn start k);
    ends = ends_both old half new x.ends y.ends;
    dialers = dialers_both old.dialers half.dialers new.dialers x.dialers y.dialers;
    frees = frees_both t net net1 net2 old.dialers half.dialers new.dialers x.frees y.frees;
    quietly = quiet_both a b c x.quietly y.quietly;
    lanes = lanes_both a b c x.lanes y.lanes;
    dry = y.dry;
    few = omega (arith, x.few, y.few);
    others = λ k w. y.others k w ∙ x.others k w;
    own = λ k. let p = x.own k in let q = y.own k in omega (arith, p, q);
    dialed = y.dialed ∙ x.dialed;
    held = λ k n l o. y.held k n l (x.held k n l o);
    listens = y.listens ∙ x.listens;
    opened = omega (arith, x.opened, y.opened);
    handed = omega (arith, x.handed, y.handed);
    young = λ k. y.young (x.young k);
    waited = λ first opened le k. y.waited first opened (omega (arith, le, x.opened)) (x.waited first opened le k);
    idles = omega (arith, x.idles, y.idles);
    faults = omega (arith, x.faults, y.faults);
  }

  -- with at most n links more
  pub asked_as : (first last m n : ℕ) (old new : LinkEndsView L) (net net' : NetView) (a b : SingleView) (t : ℕ) (d : Bool) → m ≤ n → HasAsked seen first last m old new net net' a b t d → HasAsked seen first last n old new net net' a b t d
  asked_as first last m n old new net net' a b t d more x = record {
    in_turn = x.in_turn;
    ends = x.ends;
    dialers = x.dialers;
    frees = x.frees;
    quietly = x.quietly;
    lanes = x.lanes;
    dry = x.dry;
    few = x.few;
    others = x.others;
    own = x.own;
    dialed = x.dialed;
    held = x.held;
    listens = x.listens;
    opened = x.opened;
    handed = omega (arith, x.handed, more);
    young = x.young;
    waited = x.waited;
    idles = x.idles;
    faults = x.faults;
  }

  -- ---- One listener

  -- it was asked c times, and brought at most c links
  pub record Asking (i c : ℕ) (old new : LinkEndsView L) (net net' : NetView) (s s' : SingleView) (now : ℕ) (is_dry : Bool) : Type 0 where
    pub asked : HasAsked seen i (i + 1) c old new net net' s s' now is_dry
    pub rose : CanRise net'.idles → CanRise net'.faults → sum_of net + c ≤ sum_of net'

  pub asking_none : (i : ℕ) (ends : LinkEndsView L) (net : NetView) (a : SingleView) (t : ℕ) (is_dry : Bool) → IsDry is_dry a → Asking i 0 ends ends net net a a t is_dry
  asking_none i ends net a t is_dry dry = record { asked = asked_none i (i + 1) ends net a t is_dry dry; rose = λ x y. omega arith }

  module _ (i c : ℕ) (old half new : LinkEndsView L) (net net1 net2 : NetView) (a b s : SingleView) (t : ℕ) (d e : Bool) (x : Asking i c old half net net1 a b t d) where
    -- once more
    pub asking_more : HasAsked seen i (i + 1) 1 half new net1 net2 b s t e → AsksNet net1 net2 → Asking i (c + 1) old new net net2 a s t e
    asking_more y asks = record {
      asked = asked_again i c 1 old half new net net1 net2 a b s t d e x.asked y;
      rose = λ p q. let before = x.rose (omega (arith, p, asks.idles)) (omega (arith, q, asks.faults)) in let after = asks.rose p q in omega (arith, before, after);
    }

    -- and it had no link, or failed
    pub asking_last : HasAsked seen i (i + 1) 1 half new net1 net2 b s t e → AsksNet net1 net2 → c < 16 → (CanRise net2.idles → CanRise net2.faults → asks_of net1 + 16 ≤ asks_of net2) → HasAskedOne seen i old new net net2 a s t e
    asking_last y asks few none = record {
      asked = asked_as i (i + 1) (c + 1) 16 old new net net2 a s t e (omega (arith, few)) (asking_more y asks).asked;
      rose = λ p q. let r = (asking_more y asks).rose p q in let o = open_most i old.newcomers in omega (arith, r, o);
      filled = λ p q. let n = none p q in let m = asks_most i (net2.opened - net.opened) old.newcomers in omega (arith, n, m, x.asked.idles, x.asked.faults, x.asked.opened);
    }

  module _ (i c : ℕ) (old new : LinkEndsView L) (net net' : NetView) (a b : SingleView) (t : ℕ) (d : Bool) (x : Asking i c old new net net' a b t d) where
    -- it has 256
    pub asking_full : 256 ≤ own_of i new.newcomers → c ≤ 16 → HasAskedOne seen i old new net net' a b t d
    asking_full full few = record {
      asked = asked_as i (i + 1) c 16 old new net net' a b t d few x.asked;
      rose = λ p q. let o = open_full i old.newcomers (own_of i new.newcomers) (net'.opened - net.opened) full grown in omega (arith, o, x.asked.idles, x.asked.faults, x.asked.opened);
      filled = λ p q. let o = asks_full i old.newcomers (own_of i new.newcomers) (net'.opened - net.opened) full grown in omega (arith, o, x.asked.idles, x.asked.faults, x.asked.opened);
    }
      where
        grown : own_of i new.newcomers ≤ own_of i old.newcomers + (net'.opened - net.opened)
        grown = let g = x.asked.own i in omega (arith, g, x.asked.opened)

    -- it brought 16
    pub asking_all : c ≡ 16 → HasAskedOne seen i old new net net' a b t d
    asking_all all = record {
      asked = asked_as i (i + 1) c 16 old new net net' a b t d (omega (arith, all)) x.asked;
      rose = λ p q. let r = x.rose p q in let o = open_most i old.newcomers in omega (arith, r, o, all);
      filled = λ p q. let r = x.rose p q in let m = asks_most i (net'.opened - net.opened) old.newcomers in omega (arith, r, m, all, x.asked.idles, x.asked.faults, x.asked.opened);
    }

  -- ---- All listeners

  pub asked_first : (ends : LinkEndsView L) (net : NetView) (a : SingleView) (t : ℕ) (is_dry : Bool) → IsDry is_dry a → HasAskedTo seen 0 ends ends net net a a t is_dry
  asked_first ends net a t is_dry dry = record { asked = asked_none 0 0 ends net a t is_dry dry; rose = λ x y. omega arith; filled = λ x y. omega arith }

  pub asked_next : (i : ℕ) (old half new : LinkEndsView L) (net net1 net2 : NetView) (a b c : SingleView) (t : ℕ) (d e : Bool) → HasAskedTo seen i old half net net1 a b t d → HasAskedOne seen i half new net1 net2 b c t e → HasAskedTo seen (i + 1) old new net net2 a c t e
  asked_next i old half new net net1 net2 a b c t d e x y = record {
    asked = asked_as 0 (i + 1) (16 * i + 16) (16 * (i + 1)) old new net net2 a c t e (omega arith) (asked_both 0 i (i + 1) (16 * i) 16 old half new net net1 net2 a b c t d e x.asked y.asked (omega arith) (omega arith));
    rose = λ p q.
        let before = x.rose (omega (arith, p, y.asked.idles)) (omega (arith, q, y.asked.faults)) in
        let after = y.rose p q in
        let o = open_step i old.newcomers half.newcomers (omega (arith, own)) in
        subst (λ (k : ℕ). sum_of net + open_of k old.newcomers ≤ sum_of net2) (sym (add-one i)) (omega (arith, before, after, o));
    filled = λ p q.
        let before = x.filled (omega (arith, p, y.asked.idles)) (omega (arith, q, y.asked.faults)) in
        let after = y.filled p q in
        let less = asks_less i (net1.opened - net.opened) (net2.opened - net.opened) old.newcomers old.newcomers (omega (arith, y.asked.opened)) (λ k. omega arith) in
        let o = asks_step i (net2.opened - net1.opened) (net2.opened - net.opened) old.newcomers half.newcomers (omega (arith, x.asked.opened)) (omega (arith, own)) in
        subst (λ (k : ℕ). asks_of net + asks_to k (net2.opened - net.opened) old.newcomers ≤ asks_of net2) (sym (add-one i)) (omega (arith, before, after, less, o));
  }
    where
      own : own_of i half.newcomers ≡ own_of i old.newcomers
      own = x.asked.others i (inr (omega arith))

  pub listens_still : (net net' : NetView) (xs : List Listener) → net'.listens ≡ net.listens → AllByRecursion (IsListener net) xs → AllByRecursion (IsListener net') xs
  listens_still net net' [] e all = tt
  listens_still net net' (x ∷ xs) e all = (record { listens = ap (λ m. get m x.at) e ∙ all.0.listens; linked = all.0.linked }, listens_still net net' xs e all.1)

  pub still_listens : (first last m : ℕ) (old new : LinkEndsView L) (net net' : NetView) (a b : SingleView) (t : ℕ) (d : Bool) → HasAsked seen first last m old new net net' a b t d → AllByRecursion (IsListener net) old.listeners → AllByRecursion (IsListener net') new.listeners
  still_listens first last m old new net net' a b t d asked all = subst (AllByRecursion (IsListener net')) (sym asked.ends.listeners) (listens_still net net' old.listeners asked.listens all)

  pub listener_at : (net : NetView) (xs : List Listener) → AllByRecursion (IsListener net) xs → (j : ℕ) (at : Listener) → slice_get xs j ≡ Some at → IsListener net at
  listener_at net xs all j at e = at_of (IsListener net) xs j at all e

  -- all were asked, where there was room for it at the tick
  pub rose_all : (old new : LinkEndsView L) (net net' : NetView) (a b : SingleView) (t : ℕ) (d : Bool) → HasAskedTo seen (length old.listeners) old new net net' a b t d → length old.newcomers ≤ 192 → CanRise net'.idles → CanRise net'.faults → sum_of net + length old.listeners ≤ sum_of net'
  rose_all old new net net' a b t d asked room x y =
      let r = asked.rose x y in
      let o = all_open (length old.listeners) old.newcomers (omega (arith, room)) in omega (arith, r, o)

  pub asked_all : (old new : LinkEndsView L) (net net' : NetView) (a b : SingleView) (t : ℕ) (d : Bool) (start : Beginning) → HasAskedTo seen (length old.listeners) old new net net' a b t d → InTurn seen start old net a t 0 → (has_room (before_last_tick (past_of a.seen)) ≡ true → length old.newcomers ≤ 192)
      → NetStands start (before_last_tick (past_of a.seen)) (before_last_tick (past_of a.seen)) net old.listeners old.dialers → NetStands start (past_of b.seen) (before_last_tick (past_of b.seen)) net' new.listeners new.dialers
  asked_all old new net net' a b t d start went i_in room stands = record {
    few = omega (arith, stands.few, ap length asking.ends.listeners, dialers_long old.dialers new.dialers asking.dialers);
    listens = still_listens 0 (length old.listeners) (16 * length old.listeners) old new net net' a b t d asking stands.listens;
    dials = subst (λ (past : List Entry). AllByRecursion (IsDialed (net'.opened ≡ start.net.opened) past) new.dialers) (sym (quiet_before a b asking.quietly))
        (all_still (net.opened ≡ start.net.opened) (net'.opened ≡ start.net.opened) (λ e. omega (arith, e, asking.opened, i_in.links.kept.opened)) (before_last_tick (past_of a.seen)) old.dialers new.dialers asking.dialers stands.dials);
    first = λ e. let some = subst (λ (ts : List ℕ). 0 < length ts) (sym (quiet_ticks a b asking.quietly) ∙ e) i_in.ticked in absurd (omega (arith, some));
    idles = omega (arith, stands.idles, asking.idles);
    faults = omega (arith, stands.faults, asking.faults);
    rose = rose;
  }
    where
      asking : HasAsked seen 0 (length old.listeners) (16 * length old.listeners) old new net net' a b t d
      asking = went.asked

      W : ℕ
      W = ticks_where has_room (before_last_tick (past_of a.seen))

      counted : ticks_where has_room (past_of b.seen) ≡ cond (has_room (before_last_tick (past_of a.seen))) (W + 1) W
      counted = quiet_where has_room a b asking.quietly ∙ where_last has_room (past_of a.seen) i_in.ticked

      most : (r : Bool) → has_room (before_last_tick (past_of a.seen)) ≡ r → CanRise net'.idles → CanRise net'.faults → sum_of start.net + length old.listeners * cond r (W + 1) W + tries_of old.dialers ≤ sum_of net'
      most true e x y =
          let before : sum_of start.net + length old.listeners * W + tries_of old.dialers ≤ sum_of net = stands.rose (omega (arith, x, asking.idles)) (omega (arith, y, asking.faults)) in
          let more : length old.listeners * (W + 1) ≡ length old.listeners * W + length old.listeners = twice (length old.listeners) W in
          let r = rose_all old new net net' a b t d went (room e) x y in omega (arith, before, more, r)
      most false e x y =
          let before = stands.rose (omega (arith, x, asking.idles)) (omega (arith, y, asking.faults)) in
          omega (arith, before, asking.idles, asking.faults, asking.opened)

      rose : CanRise net'.idles → CanRise net'.faults → sum_of start.net + length new.listeners * ticks_where has_room (past_of b.seen) + tries_of new.dialers ≤ sum_of net'
      rose x y =
          let m = most (has_room (before_last_tick (past_of a.seen))) refl x y in
          let l = ap length asking.ends.listeners in
          let tr = same_tries old.dialers new.dialers asking.dialers in
          subst (λ (n : ℕ). sum_of start.net + n + tries_of new.dialers ≤ sum_of net') (ap (λ (k : ℕ). length old.listeners * k) (sym counted) ∙ ap (λ (k : ℕ). k * ticks_where has_room (past_of b.seen)) (sym l)) (subst (λ (k : ℕ). sum_of start.net + length old.listeners * cond (has_room (before_last_tick (past_of a.seen))) (W + 1) W + k ≤ sum_of net') (sym tr) m)
