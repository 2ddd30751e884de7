-- Dialers whose links come back, and those that are dialed.
use Rattle.std.proofs.Common.{◌≡◌, ◌≤◌, ◌<◌, ◌+◌, ◌∷◌, ℕ, zero, suc, List, [], length, Option, Some, None, refl, sym, ap, subst, ◌∙◌, arith, set, get_or, inl, inr, slice_get}
use Rattle.std.specs.Prelude.{⊤, ◌⊎◌}
use Rattle.std.specs.FinMap.{FinMap, get, insert}
use Rattle.std.specs.Ordering.{nat_cmp}
use Rattle.sp_base.specs.Views.{LinkView, NetView}
use Rattle.sp_base.specs.Steps.{IsHandedOut, Untouched}
use Rattle.sp_base.specs.declared.addr.Scheme.{Scheme}
use Rattle.sp_ends.specs.DialMoments.{IsDueAt}
use Rattle.sp_ends.specs.declared.dialer.Dialer.{Dialer}
use Rattle.sp_ends.specs.DialerSteps.{IsFree, IsUnderWay, IsFreed}
use Rattle.sp_ends.specs.Freeing.{AreFreed, FreesOne, FreesAll, GotBack, Frees, HasRedialed, RedialsOne, Redials, TurnsOne, TurnsAll, Turns, IsDue, AreWaiting}
use Rattle.sp_ends.specs.NewcomerSteps.{GivesOneBack}
use Rattle.sp_ends.proofs.Moves.{there, elsewhere}
use Rattle.sp_ends.proofs.LeavingAll.{same_or_not}
use Rattle.sp_ends.proofs.NewcomingMoments.{due_moment}

-- ---- The net

pub got_none : (a b : NetView) → a.opened ≤ b.opened → b.back ≡ a.back → GotBack a b
got_none a b o e = record {
  opened = o;
  stays = λ q none. ap (λ (m : FinMap nat_cmp LinkView). get m q) (sym e) ∙ none;
  others = λ q l. ap (λ (m : FinMap nat_cmp LinkView). get m q) e;
}

pub got_both : (a b c : NetView) → GotBack a b → GotBack b c → GotBack a c
got_both a b c x y = record {
  opened = omega (arith, x.opened, y.opened);
  stays = λ q none. x.stays q (y.stays q none);
  others = λ q l. y.others q l ∙ x.others q (omega (arith, l, y.opened));
}

module _ (place : ℕ) (a b : NetView) (g : GivesOneBack place a b) where
  is_other : (q : ℕ) → (q ≡ place → ⊥) → get b.back q ≡ get a.back q
  is_other q ne = ap (λ (m : FinMap nat_cmp LinkView). get m q) g.back.back ∙ elsewhere a.back g.link.place g.link q (λ e. ne (e ∙ g.is_place))

  is_back : get b.back place ≡ None → ⊥
  is_back none =
      let at : get b.back place ≡ Some g.link = ap (λ (m : FinMap nat_cmp LinkView). get m place) g.back.back ∙ (ap (get (insert a.back g.link.place g.link)) (sym g.is_place) ∙ there a.back g.link.place g.link) in
      let no : Some g.link ≡ None = sym at ∙ none in cc

  pub got_one : GotBack a b
  got_one = record {
    opened = let o = g.back.opened in omega (arith, o);
    stays = λ q none. go q none (same_or_not q place);
    others = λ q l. is_other q (λ e. absurd (let i = g.inside in let o = g.back.opened in omega (arith, e, l, i, o)));
  }
    where
      go : (q : ℕ) → get b.back q ≡ None → (q ≡ place) ⊎ ((q ≡ place) → ⊥) → get a.back q ≡ None
      go q none (inl e) = absurd (is_back (ap (get b.back) (sym e) ∙ none))
      go q none (inr ne) = sym (is_other q ne) ∙ none

  freed_one : (t : ℕ) (d e : Dialer) → IsFreed t place d e → FreesOne t a b d e
  freed_one t d e f = go d.place refl
    where
      go : (o : Option ℕ) → d.place ≡ o → FreesOne t a b d e
      go None is = inl (f.others (λ s. let no : Some place ≡ None = sym s ∙ is in cc), λ q at none. let no : Some q ≡ None = sym at ∙ is in cc)
      go (Some q) is = pick (same_or_not q place)
        where
          pick : (q ≡ place) ⊎ ((q ≡ place) → ⊥) → FreesOne t a b d e
          pick (inl same) = let s = is ∙ ap Some same in inr (place, s, is_back, f.lost s)
          pick (inr ne) = inl (f.others (λ s. let both : Some q ≡ Some place = sym is ∙ s in ne (cc)), λ r at none. let both : Some q ≡ Some r = sym is ∙ at in let same : q ≡ r = cc in is_other r (λ w. ne (same ∙ w)) ∙ none)

  freed_all : (t : ℕ) (ds es : List Dialer) → AreFreed t place ds es → FreesAll t a b ds es
  freed_all t [] [] f = tt
  freed_all t (d ∷ ds) (e ∷ es) f = (freed_one t d e f.0, freed_all t ds es f.1)
  freed_all t [] (e ∷ es) f = absurd f
  freed_all t (d ∷ ds) [] f = absurd f

  -- the link is back, and its dialer is free
  pub frees_lost : (t : ℕ) (ds es : List Dialer) → AreFreed t place ds es → Frees t a b ds es
  frees_lost t ds es f = record { net = got_one; dialers = freed_all t ds es f }

-- ---- Dialers

same_one : (t : ℕ) (a b : NetView) (d : Dialer) → b.back ≡ a.back → FreesOne t a b d d
same_one t a b d e = inl (refl, λ q at none. ap (λ (m : FinMap nat_cmp LinkView). get m q) e ∙ none)

pub same_all : (t : ℕ) (a b : NetView) (ds : List Dialer) → b.back ≡ a.back → FreesAll t a b ds ds
same_all t a b [] e = tt
same_all t a b (d ∷ ds) e = (same_one t a b d e, same_all t a b ds e)

pub frees_none : (t : ℕ) (a b : NetView) (ds es : List Dialer) → a.opened ≤ b.opened → b.back ≡ a.back → es ≡ ds → Frees t a b ds es
frees_none t a b ds es o e same = subst (λ (xs : List Dialer). Frees t a b ds xs) (sym same) (record { net = got_none a b o e; dialers = same_all t a b ds e })

one_through : (t : ℕ) (a b c : NetView) (d e f : Dialer) → GotBack b c → FreesOne t a b d e → FreesOne t b c e f → FreesOne t a c d f
one_through t a b c d e f g (inl x) (inl y) = inl (y.0 ∙ x.0, λ q at none. y.1 q (ap (λ (k : Dialer). k.place) x.0 ∙ at) (x.1 q at none))
one_through t a b c d e f g (inl x) (inr y) = inr (y.0, ap (λ (k : Dialer). k.place) (sym x.0) ∙ y.1, y.2, y.3)
one_through t a b c d e f g (inr x) (inl y) = inr (x.0, x.1, λ none. x.2 (g.stays x.0 none), (ap (λ (k : Dialer). k.place) y.0 ∙ x.3.0, ap (λ (k : Dialer). k.next) y.0 ∙ x.3.1))
one_through t a b c d e f g (inr x) (inr y) = inr (x.0, x.1, λ none. x.2 (g.stays x.0 none), y.3)

all_through : (t : ℕ) (a b c : NetView) (ds es fs : List Dialer) → GotBack b c → FreesAll t a b ds es → FreesAll t b c es fs → FreesAll t a c ds fs
all_through t a b c [] [] [] g x y = tt
all_through t a b c (d ∷ ds) (e ∷ es) (f ∷ fs) g x y = (one_through t a b c d e f g x.0 y.0, all_through t a b c ds es fs g x.1 y.1)
all_through t a b c [] (e ∷ es) fs g x y = absurd x
all_through t a b c (d ∷ ds) [] fs g x y = absurd x
all_through t a b c [] [] (f ∷ fs) g x y = absurd y
all_through t a b c (d ∷ ds) (e ∷ es) [] g x y = absurd y

pub frees_both : (t : ℕ) (a b c : NetView) (ds es fs : List Dialer) → Frees t a b ds es → Frees t b c es fs → Frees t a c ds fs
frees_both t a b c ds es fs x y = record { net = got_both a b c x.net y.net; dialers = all_through t a b c ds es fs y.net x.dialers y.dialers }

-- ---- One dial

-- nothing was handed out
pub redials_none : (i t : ℕ) (a b : NetView) (xs ds : List Dialer) (new : Dialer) → Untouched a b → xs ≡ ds → i < length ds → IsFree t new ⊎ IsUnderWay t new → Redials i t a b ds (set xs i new)
redials_none i t a b xs ds new u e lt free =
    subst (λ (ys : List Dialer). Redials i t a b ds (set ys i new)) (sym e) (record { net = got_none a b (let o = u.opened in omega (arith, o)) u.back; dialers = go i ds lt })
  where
    go : (j : ℕ) (ys : List Dialer) → j < length ys → RedialsOne j t a b ys (set ys j new)
    go j [] lt' = absurd (omega (arith, lt'))
    go zero (y ∷ ys) lt' = (inl free, same_all t a b ys u.back)
    go (suc j) (y ∷ ys) lt' = (same_one t a b y u.back, go j ys (omega (arith, lt')))

redialed_then : (t : ℕ) (a b c : NetView) (e f : Dialer) → GotBack b c → HasRedialed t a b e → FreesOne t b c e f → HasRedialed t a c f
redialed_then t a b c e f g x (inr y) = inl (inl y.3)
redialed_then t a b c e f g (inl (inl x)) (inl y) = inl (inl (subst (IsFree t) (sym y.0) x))
redialed_then t a b c e f g (inl (inr x)) (inl y) = inl (inr (subst (IsUnderWay t) (sym y.0) x))
redialed_then t a b c e f g (inr x) (inl y) = inr (x.0, ap (λ (k : Dialer). k.place) y.0 ∙ x.1, x.2, omega (arith, x.3, g.opened), λ none. y.1 x.0 x.1 (x.4 none))

redials_then : (i t : ℕ) (a b c : NetView) (ds es fs : List Dialer) → GotBack b c → RedialsOne i t a b ds es → FreesAll t b c es fs → RedialsOne i t a c ds fs
redials_then i t a b c [] [] [] g x y = tt
redials_then i t a b c [] [] (f ∷ fs) g x y = absurd y
redials_then i t a b c [] (e ∷ es) fs g x y = absurd x
redials_then zero t a b c (d ∷ ds) [] fs g x y = absurd x
redials_then (suc i) t a b c (d ∷ ds) [] fs g x y = absurd x
redials_then i t a b c (d ∷ ds) (e ∷ es) [] g x y = absurd y
redials_then zero t a b c (d ∷ ds) (e ∷ es) (f ∷ fs) g x y = (redialed_then t a b c e f g x.0 y.0, all_through t a b c ds es fs g x.1 y.1)
redials_then (suc i) t a b c (d ∷ ds) (e ∷ es) (f ∷ fs) g x y = (one_through t a b c d e f g x.0 y.0, redials_then i t a b c ds es fs g x.1 y.1)

-- a link was handed out, and greeted
pub redials_got : (i t : ℕ) (a b c : NetView) (link : LinkView) (scheme : Option Scheme) (xs ds fs : List Dialer) (new : Dialer) → IsHandedOut link scheme a b → xs ≡ ds → i < length ds → new.place ≡ Some link.place → Frees t b c (set xs i new) fs → Redials i t a c ds fs
redials_got i t a b c link scheme xs ds fs new h e lt place then_ =
    record { net = got_both a b c got then_.net; dialers = redials_then i t a b c ds (set xs i new) fs then_.net (subst (λ (ys : List Dialer). RedialsOne i t a b ds (set ys i new)) (sym e) (go i ds lt)) then_.dialers }
  where
    got : GotBack a b
    got = got_none a b (let o = h.opened in omega (arith, o)) h.back

    has : HasRedialed t a b new
    has = inr (a.opened, place ∙ ap Some h.fresh.place, omega arith, (let o = h.opened in omega (arith, o)), λ none. ap (λ (m : FinMap nat_cmp LinkView). get m a.opened) h.back ∙ none)

    go : (j : ℕ) (ys : List Dialer) → j < length ys → RedialsOne j t a b ys (set ys j new)
    go j [] lt' = absurd (omega (arith, lt'))
    go zero (y ∷ ys) lt' = (has, same_all t a b ys h.back)
    go (suc j) (y ∷ ys) lt' = (same_one t a b y h.back, go j ys (omega (arith, lt')))

-- ---- All of them

-- the first i had their turn, and none of these is still due, except those with a connection under way
abbrev pub TurnedTo : ℕ → ℕ → NetView → NetView → List Dialer → List Dialer → Type 0
TurnedTo zero t a b ds es = FreesAll t a b ds es
TurnedTo (suc i) t a b [] [] = ⊤
TurnedTo (suc i) t a b (d ∷ ds) (e ∷ es) = TurnsOne t a b d e × (IsDue t e → IsUnderWay t e) × TurnedTo i t a b ds es
TurnedTo (suc i) t a b _ _ = ⊥

free_waits : (t : ℕ) (e : Dialer) → IsFree t e → IsDue t e → ⊥
free_waits t e f due = let l = due_moment (t + 100) t (subst (λ (o : Option ℕ). IsDueAt o t) f.1 due.1) in omega (arith, l)

redialed_waits : (t : ℕ) (a b : NetView) (e : Dialer) → HasRedialed t a b e → IsDue t e → IsUnderWay t e
redialed_waits t a b e (inl (inl f)) due = absurd (free_waits t e f due)
redialed_waits t a b e (inl (inr u)) due = u
redialed_waits t a b e (inr x) due = let no : Some x.0 ≡ None = sym x.1 ∙ due.0 in cc

waits_then : (t : ℕ) (a b : NetView) (d e : Dialer) → FreesOne t a b d e → (IsDue t d → IsUnderWay t d) → IsDue t e → IsUnderWay t e
waits_then t a b d e (inl x) w due = subst (IsUnderWay t) (sym x.0) (w (subst (IsDue t) x.0 due))
waits_then t a b d e (inr x) w due = absurd (free_waits t e x.3 due)

turns_then : (t : ℕ) (a b c : NetView) (d e f : Dialer) → GotBack b c → TurnsOne t a b d e → FreesOne t b c e f → TurnsOne t a c d f
turns_then t a b c d e f g (inl x) y = inl (one_through t a b c d e f g x y)
turns_then t a b c d e f g (inr x) y = inr (x.0, redialed_then t a b c e f g x.1 y)

-- one that is due is dialed
turns_due : (t : ℕ) (a b c : NetView) (d e f : Dialer) → GotBack a b → GotBack b c → FreesOne t a b d e → IsDue t e → HasRedialed t b c f → TurnsOne t a c d f
turns_due t a b c d e f g h (inr x) due r = absurd (free_waits t e x.3 due)
turns_due t a b c d e f g h (inl x) due r = inr (subst (IsDue t) x.0 due, go r)
  where
    go : HasRedialed t b c f → HasRedialed t a c f
    go (inl free) = inl free
    go (inr y) = inr (y.0, y.1, omega (arith, y.2, g.opened), y.3, λ none. y.4 (g.others y.0 y.2 ∙ none))

module _ (t : ℕ) (a b c : NetView) (g : GotBack a b) (h : GotBack b c) where
  pub turned_due : (i : ℕ) (ds es fs : List Dialer) → TurnedTo i t a b ds es → RedialsOne i t b c es fs → ((q : Dialer) → slice_get es i ≡ Some q → IsDue t q) → TurnedTo (suc i) t a c ds fs
  turned_due zero [] [] [] x r due = tt
  turned_due zero [] [] (f ∷ fs) x r due = absurd r
  turned_due zero [] (e ∷ es) fs x r due = absurd x
  turned_due zero (d ∷ ds) [] fs x r due = absurd x
  turned_due zero (d ∷ ds) (e ∷ es) [] x r due = absurd r
  turned_due zero (d ∷ ds) (e ∷ es) (f ∷ fs) x r due = (turns_due t a b c d e f g h x.0 (due e refl) r.0, redialed_waits t b c f r.0, all_through t a b c ds es fs h x.1 r.1)
  turned_due (suc i) [] [] [] x r due = tt
  turned_due (suc i) [] [] (f ∷ fs) x r due = absurd r
  turned_due (suc i) [] (e ∷ es) fs x r due = absurd x
  turned_due (suc i) (d ∷ ds) [] fs x r due = absurd x
  turned_due (suc i) (d ∷ ds) (e ∷ es) [] x r due = absurd r
  turned_due (suc i) (d ∷ ds) (e ∷ es) (f ∷ fs) x r due = (turns_then t a b c d e f h x.0 r.0, waits_then t b c e f r.0 x.1, turned_due i ds es fs x.2 r.1 due)

pub turned_not_due : (t : ℕ) (a b : NetView) (i : ℕ) (ds es : List Dialer) → TurnedTo i t a b ds es → ((q : Dialer) → slice_get es i ≡ Some q → IsDue t q → ⊥) → TurnedTo (suc i) t a b ds es
turned_not_due t a b zero [] [] x never = tt
turned_not_due t a b zero [] (e ∷ es) x never = absurd x
turned_not_due t a b zero (d ∷ ds) [] x never = absurd x
turned_not_due t a b zero (d ∷ ds) (e ∷ es) x never = (inl x.0, λ due. absurd (never e refl due), x.1)
turned_not_due t a b (suc i) [] [] x never = tt
turned_not_due t a b (suc i) [] (e ∷ es) x never = absurd x
turned_not_due t a b (suc i) (d ∷ ds) [] x never = absurd x
turned_not_due t a b (suc i) (d ∷ ds) (e ∷ es) x never = (x.0, x.1, turned_not_due t a b i ds es x.2 never)

turns_rest : (t : ℕ) (a b : NetView) (ds es : List Dialer) → FreesAll t a b ds es → TurnsAll t a b ds es
turns_rest t a b [] [] x = tt
turns_rest t a b (d ∷ ds) (e ∷ es) x = (inl x.0, turns_rest t a b ds es x.1)
turns_rest t a b [] (e ∷ es) x = absurd x
turns_rest t a b (d ∷ ds) [] x = absurd x

pub turned_turns : (t : ℕ) (a b : NetView) (i : ℕ) (ds es : List Dialer) → TurnedTo i t a b ds es → TurnsAll t a b ds es
turned_turns t a b zero ds es x = turns_rest t a b ds es x
turned_turns t a b (suc i) [] [] x = tt
turned_turns t a b (suc i) [] (e ∷ es) x = absurd x
turned_turns t a b (suc i) (d ∷ ds) [] x = absurd x
turned_turns t a b (suc i) (d ∷ ds) (e ∷ es) x = (x.0, turned_turns t a b i ds es x.2)

pub turned_waits : (t : ℕ) (a b : NetView) (i : ℕ) (ds es : List Dialer) → TurnedTo i t a b ds es → length ds ≤ i → AreWaiting t es
turned_waits t a b zero [] [] x l = tt
turned_waits t a b zero [] (e ∷ es) x l = absurd x
turned_waits t a b zero (d ∷ ds) es x l = absurd (omega (arith, l))
turned_waits t a b (suc i) [] [] x l = tt
turned_waits t a b (suc i) [] (e ∷ es) x l = absurd x
turned_waits t a b (suc i) (d ∷ ds) [] x l = absurd x
turned_waits t a b (suc i) (d ∷ ds) (e ∷ es) x l = (x.1, turned_waits t a b i ds es x.2 (omega (arith, l)))

-- first some links came back, then dialers had their turns
turns_after : (t : ℕ) (a b c : NetView) (d e f : Dialer) → GotBack a b → GotBack b c → FreesOne t a b d e → TurnsOne t b c e f → TurnsOne t a c d f
turns_after t a b c d e f g h x (inl y) = inl (one_through t a b c d e f h x y)
turns_after t a b c d e f g h x (inr y) = turns_due t a b c d e f g h x y.0 y.1

all_after : (t : ℕ) (a b c : NetView) (ds es fs : List Dialer) → GotBack a b → GotBack b c → FreesAll t a b ds es → TurnsAll t b c es fs → TurnsAll t a c ds fs
all_after t a b c [] [] [] g h x y = tt
all_after t a b c (d ∷ ds) (e ∷ es) (f ∷ fs) g h x y = (turns_after t a b c d e f g h x.0 y.0, all_after t a b c ds es fs g h x.1 y.1)
all_after t a b c [] (e ∷ es) fs g h x y = absurd x
all_after t a b c (d ∷ ds) [] fs g h x y = absurd x
all_after t a b c [] [] (f ∷ fs) g h x y = absurd y
all_after t a b c (d ∷ ds) (e ∷ es) [] g h x y = absurd y

pub turns_all : (t : ℕ) (a b c : NetView) (ds es fs : List Dialer) → Frees t a b ds es → Turns t b c es fs → Turns t a c ds fs
turns_all t a b c ds es fs x y = record { net = got_both a b c x.net y.net; dialers = all_after t a b c ds es fs x.net y.net x.dialers y.dialers }

-- ---- All that may have lost the link

-- the first i had their turn
abbrev pub FreedTo : ℕ → ℕ → ℕ → List Dialer → List Dialer → Type 0
FreedTo zero t place ds es = es ≡ ds
FreedTo (suc i) t place [] [] = ⊤
FreedTo (suc i) t place (d ∷ ds) (e ∷ es) = IsFreed t place d e × FreedTo i t place ds es
FreedTo (suc i) t place _ _ = ⊥

module _ (t place : ℕ) where
  pub freed_next : (i : ℕ) (ds es : List Dialer) (y z : Dialer) → FreedTo i t place ds es → i < length es → IsFreed t place (get_or es i y) z → FreedTo (suc i) t place ds (set es i z)
  freed_next zero ds [] y z x l f = absurd (omega (arith, l))
  freed_next zero [] (e ∷ es) y z x l f = cc
  freed_next zero (d ∷ ds) (e ∷ es) y z x l f = let same : e ≡ d = cc in let rest : es ≡ ds = cc in (subst (λ (k : Dialer). IsFreed t place k z) same f, rest)
  freed_next (suc i) [] [] y z x l f = absurd (omega (arith, l))
  freed_next (suc i) [] (e ∷ es) y z x l f = absurd x
  freed_next (suc i) (d ∷ ds) [] y z x l f = absurd x
  freed_next (suc i) (d ∷ ds) (e ∷ es) y z x l f = (x.0, freed_next i ds es y z x.1 (omega (arith, l)) f)

  pub freed_whole : (i : ℕ) (ds es : List Dialer) → FreedTo i t place ds es → length es ≤ i → AreFreed t place ds es
  freed_whole zero [] [] x l = tt
  freed_whole zero (d ∷ ds) [] x l = cc
  freed_whole zero ds (e ∷ es) x l = absurd (omega (arith, l))
  freed_whole (suc i) [] [] x l = tt
  freed_whole (suc i) [] (e ∷ es) x l = absurd x
  freed_whole (suc i) (d ∷ ds) [] x l = absurd x
  freed_whole (suc i) (d ∷ ds) (e ∷ es) x l = (x.0, freed_whole i ds es x.1 (omega (arith, l)))
