-- Each link that stays once brought nothing or took nothing.
use Rattle.std.proofs.Common.{◌≡◌, ◌≤◌, ◌++◌, ◌∷◌, ℕ, zero, suc, List, [], length, refl, sym, subst, arith, inl, inr, take, drop, length-append}
use Rattle.std.specs.Prelude.{◌⊎◌}
use Rattle.std.specs.List.{AllByRecursion}
use Rattle.std.proofs.lemmas.List.{drop_all, take-append-le, drop-append-le}
use Rattle.sp_base.specs.Outside.{Rose}
use Rattle.sp_base.specs.Views.{LinkView}
use Rattle.sp_links.specs.Going.{WaitsFor}
use Rattle.sp_ends.specs.declared.newcomer.Newcomer.{Newcomer}
use Rattle.sp_ends.specs.NewcomerSteps.{HasWaitedOn}
use Rattle.sp_ends.specs.EndsTurns.{IsOneOf, IsFirstOrNew, HasWaitedSince, AreWaitingBehind}

rose_once : (a b : ℕ) → Rose a b → 1 ≤ b
rose_once a b r = omega (arith, r)

all_behind : {A : Type 0} (P : A → Type 0) (xs : List A) (y : A) → AllByRecursion P xs → P y → AllByRecursion P (xs ++ y ∷ [])
all_behind P [] y a p = (p, tt)
all_behind P (x ∷ xs) y a p = (a.0, all_behind P xs y a.1 p)

module _ {L : Type 0} (seen : L → LinkView) where
  -- one that was known before has waited since
  pub waited_since : (first : List (Newcomer L)) (opened : ℕ) (m n : Newcomer L) → IsFirstOrNew seen first opened m → HasWaitedOn seen m n → HasWaitedSince seen first opened n
  waited_since first opened m n (inl one) w = inl (m, one, w)
  waited_since first opened m n (inr new) w = inr (let p = w.place in omega (arith, p, new), once w.waited)
    where
      once : WaitsFor seen (seen m.opening.link) n.opening → (1 ≤ (seen n.opening.link).idles) ⊎ (1 ≤ (seen n.opening.link).stalls)
      once (inl (few, r)) = inr (rose_once _ _ r)
      once (inr (all, r)) = inl (rose_once _ _ r)

  -- one more after them
  pub waiting_more : (first : List (Newcomer L)) (opened k : ℕ) (ns : List (Newcomer L)) (n : Newcomer L) → HasWaitedSince seen first opened n → AreWaitingBehind seen first opened k ns → AreWaitingBehind seen first opened k (ns ++ n ∷ [])
  waiting_more first opened k ns n w a = record {
    within = let x = a.within in omega (arith, x, length-append ns (n ∷ []));
    ungreeted = subst (λ (xs : List (Newcomer L)). AllByRecursion (IsFirstOrNew seen first opened) xs) (sym (take-append-le k ns (n ∷ []) a.within)) a.ungreeted;
    rest = subst (λ (xs : List (Newcomer L)). AllByRecursion (HasWaitedSince seen first opened) xs) (sym (drop-append-le k ns (n ∷ []) a.within)) (all_behind (HasWaitedSince seen first opened) (drop k ns) n a.rest w);
  }

  -- the first is taken out
  pub waiting_rest : (first : List (Newcomer L)) (opened k r : ℕ) (n : Newcomer L) (ns : List (Newcomer L)) → k ≡ suc r → AreWaitingBehind seen first opened k (n ∷ ns) → IsFirstOrNew seen first opened n × AreWaitingBehind seen first opened r ns
  waiting_rest first opened k r n ns e a =
      let b : AreWaitingBehind seen first opened (suc r) (n ∷ ns) = subst (λ (m : ℕ). AreWaitingBehind seen first opened m (n ∷ ns)) e a in
      (b.ungreeted.0, record { within = let x = b.within in omega (arith, x); ungreeted = b.ungreeted.1; rest = b.rest })

  all_first : (first : List (Newcomer L)) (opened k : ℕ) (ns : List (Newcomer L)) → ((n : Newcomer L) → IsOneOf ns n → IsOneOf first n) → AllByRecursion (IsFirstOrNew seen first opened) (take k ns)
  all_first first opened zero [] all = tt
  all_first first opened zero (n ∷ ns) all = tt
  all_first first opened (suc k) [] all = tt
  all_first first opened (suc k) (n ∷ ns) all = (inl (all n (inl refl)), all_first first opened k ns (λ m x. all m (inr x)))

  -- none was greeted yet
  pub waiting_none : (opened k : ℕ) (ns : List (Newcomer L)) → k ≡ length ns → AreWaitingBehind seen ns opened k ns
  waiting_none opened k ns e = record {
    within = omega (arith, e);
    ungreeted = all_first ns opened k ns (λ n x. x);
    rest = subst (λ (xs : List (Newcomer L)). AllByRecursion (HasWaitedSince seen ns opened) xs) (sym (drop_all k ns (omega (arith, e)))) tt;
  }
