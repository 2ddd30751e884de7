-- Each link that was dialed is a dialer's, or is back.
use Rattle.std.proofs.Common.{◌≡◌, ◌≤◌, ◌<◌, ◌∷◌, ℕ, zero, suc, List, [], length, Option, Some, None, refl, sym, ap, subst, ◌∙◌, arith, set, inl, inr, slice_get}
use Rattle.std.specs.Prelude.{◌⊎◌}
use Rattle.std.specs.FinMap.{get}
use Rattle.std.proofs.lemmas.Bool.{cases_lt}
use Rattle.sp_base.specs.Views.{LinkView, NetView}
use Rattle.sp_base.specs.Steps.{IsHandedOut}
use Rattle.sp_base.specs.declared.addr.Scheme.{Scheme}
use Rattle.sp_ends.specs.declared.dialer.Dialer.{Dialer}
use Rattle.sp_ends.specs.Freeing.{FreesOne, FreesAll, GotBack, Frees, RedialsOne, HasLink, KnowsLinks, IsDue}

-- nothing was handed out
pub knows_none : (first : ℕ) (net : NetView) (ds : List Dialer) → net.opened ≤ first → KnowsLinks first net ds
knows_none first net ds le place lo hi = absurd (omega (arith, le, lo, hi))

-- the dialer at a place of the list has the link
has_set : (place i : ℕ) (ds : List Dialer) (new : Dialer) → i < length ds → new.place ≡ Some place → HasLink place (set ds i new)
has_set place i [] new lt e = absurd (omega (arith, lt))
has_set place zero (d ∷ ds) new lt e = inl e
has_set place (suc i) (d ∷ ds) new lt e = inr (has_set place i ds new (omega (arith, lt)) e)

or_back : (place : ℕ) (net : NetView) (e : Dialer) (es : List Dialer) → HasLink place es ⊎ (get net.back place ≡ None → ⊥) → HasLink place (e ∷ es) ⊎ (get net.back place ≡ None → ⊥)
or_back place net e es (inl x) = inl (inr x)
or_back place net e es (inr x) = inr x

-- a dialer keeps its link, unless it came back
one_keeps : (t place : ℕ) (a b : NetView) (d e : Dialer) → FreesOne t a b d e → d.place ≡ Some place → (e.place ≡ Some place) ⊎ (get b.back place ≡ None → ⊥)
one_keeps t place a b d e (inl x) has = inl (ap (λ (k : Dialer). k.place) x.0 ∙ has)
one_keeps t place a b d e (inr x) has =
    let both : Some x.0 ≡ Some place = sym x.1 ∙ has in
    let same : x.0 ≡ place = cc in inr (λ none. x.2 (ap (get b.back) same ∙ none))

with_rest : (place : ℕ) (net : NetView) (e : Dialer) (es : List Dialer) → (e.place ≡ Some place) ⊎ (get net.back place ≡ None → ⊥) → HasLink place (e ∷ es) ⊎ (get net.back place ≡ None → ⊥)
with_rest place net e es (inl x) = inl (inl x)
with_rest place net e es (inr x) = inr x

all_keep : (t place : ℕ) (a b : NetView) (ds es : List Dialer) → FreesAll t a b ds es → HasLink place ds → HasLink place es ⊎ (get b.back place ≡ None → ⊥)
all_keep t place a b [] es x has = absurd has
all_keep t place a b (d ∷ ds) [] x has = absurd x
all_keep t place a b (d ∷ ds) (e ∷ es) x (inl has) = with_rest place b e es (one_keeps t place a b d e x.0 has)
all_keep t place a b (d ∷ ds) (e ∷ es) x (inr has) = or_back place b e es (all_keep t place a b ds es x.1 has)

-- one that was due had no link
dialed_keep : (i t place : ℕ) (a b : NetView) (ds es : List Dialer) → RedialsOne i t a b ds es → ((q : Dialer) → slice_get ds i ≡ Some q → IsDue t q) → HasLink place ds → HasLink place es ⊎ (get b.back place ≡ None → ⊥)
dialed_keep zero t place a b [] es x due has = absurd has
dialed_keep (suc i) t place a b [] es x due has = absurd has
dialed_keep zero t place a b (d ∷ ds) [] x due has = absurd x
dialed_keep (suc i) t place a b (d ∷ ds) [] x due has = absurd x
dialed_keep zero t place a b (d ∷ ds) (e ∷ es) x due (inl has) = let no : Some place ≡ None = sym has ∙ (due d refl).0 in cc
dialed_keep zero t place a b (d ∷ ds) (e ∷ es) x due (inr has) = or_back place b e es (all_keep t place a b ds es x.1 has)
dialed_keep (suc i) t place a b (d ∷ ds) (e ∷ es) x due (inl has) = with_rest place b e es (one_keeps t place a b d e x.0 has)
dialed_keep (suc i) t place a b (d ∷ ds) (e ∷ es) x due (inr has) = or_back place b e es (dialed_keep i t place a b ds es x.1 due has)

-- a link was handed out, and greeted
pub knows_got : (i t : ℕ) (a b c : NetView) (link : LinkView) (scheme : Option Scheme) (xs ds fs : List Dialer) (new : Dialer) → IsHandedOut link scheme a b → c.opened ≡ b.opened → xs ≡ ds → i < length ds → new.place ≡ Some link.place → Frees t b c (set xs i new) fs → KnowsLinks a.opened c fs
knows_got i t a b c link scheme xs ds fs new h same e lt has then_ place lo hi =
    let is : place ≡ link.place = omega (arith, lo, hi, same, h.opened, h.fresh.place) in
    all_keep t place b c (set xs i new) fs then_.dialers
    (subst (λ (ys : List Dialer). HasLink place (set ys i new)) (sym e) (has_set place i ds new lt (has ∙ ap Some (sym is))))

-- one more address was dialed
pub knows_next : (first i t : ℕ) (a b : NetView) (ds es : List Dialer) → KnowsLinks first a ds → GotBack a b → RedialsOne i t a b ds es → ((q : Dialer) → slice_get ds i ≡ Some q → IsDue t q) → KnowsLinks a.opened b es → KnowsLinks first b es
knows_next first i t a b ds es was g r due new place lo hi = go (cases_lt place a.opened)
  where
    still : HasLink place ds ⊎ (get a.back place ≡ None → ⊥) → HasLink place es ⊎ (get b.back place ≡ None → ⊥)
    still (inl has) = dialed_keep i t place a b ds es r due has
    still (inr back) = inr (λ none. back (g.stays place none))

    go : (place < a.opened) ⊎ (a.opened ≤ place) → HasLink place es ⊎ (get b.back place ≡ None → ⊥)
    go (inl below) = still (was place lo below)
    go (inr above) = new place above hi
