-- The pipes of what is kept, when one more is kept, and when one is no longer kept.
use Rattle.std.proofs.Common.{◌≡◌, refl, ap, sym, subst, ◌∙◌, List, [], ◌∷◌, ◌++◌, ℕ, Bool, true, false, cond, arith, map, filter}
use Rattle.std.specs.Prelude.{not, ◌||◌, ◌==◌, Result, Ok, Err, OnOk}
use Rattle.std.specs.List.{list_any}
use Rattle.std.specs.Result.{is_err}
use Rattle.std.proofs.lemmas.Bool.Decides.{nat_tests}
use Rattle.std.proofs.lemmas.List.Folds.{list_any-append}
use Rattle.sp_history.specs.Lists.{has}
use Rattle.sp_history.specs.Once.{AreDistinct}
use Rattle.proto_requests.specs.Backlogs.{is_of, IsIndexed}
use Rattle.proto_requests.proofs.TestValues.{both_false, equal_of, turned}

pub went : {A E : Type 0} (r : Result A E) (P : Type 0) → is_err r ≡ false → OnOk r P → P
went (Ok a) P e h = h
went (Err x) P e h = absurd cc

clash : (a p q : ℕ) → (a == p) ≡ true → (a == q) ≡ true → (p == q) ≡ false → ⊥
clash a p q e f g = grind (arith, nat_tests)

meet : (a p q : ℕ) → (a == p) ≡ false → (a == q) ≡ true → (p == q) ≡ true → ⊥
meet a p q e f g = grind (arith, nat_tests)

or_last : (a b : Bool) → cond a true b ≡ (b || (a || false))
or_last true true = refl
or_last true false = refl
or_last false true = refl
or_last false false = refl

module _ {A : Type 0} (pipe : A → ℕ) where
  pub any_has : (xs : List A) (q : ℕ) → has (map pipe xs) q ≡ list_any (is_of pipe q) xs
  any_has [] q = refl
  any_has (x ∷ xs) q = ap (λ b. (pipe x == q) || b) (any_has xs q)

  pub distinct_more : (xs : List A) (x : A) → AreDistinct (map pipe xs) → list_any (is_of pipe (pipe x)) xs ≡ false → AreDistinct (map pipe (xs ++ x ∷ []))
  distinct_more [] x h none = (refl, tt)
  distinct_more (y ∷ xs) x h none =
      let apart = both_false (pipe y == pipe x) (list_any (is_of pipe (pipe x)) xs) none in
      let last : (pipe x == pipe y) ≡ false = turned (pipe y) (pipe x) false apart.0 in
      let prefix : list_any (is_of pipe (pipe y)) xs ≡ false = sym (any_has xs (pipe y)) ∙ h.0 in (
        any_has (xs ++ x ∷ []) (pipe y) ∙ list_any-append (is_of pipe (pipe y)) xs (x ∷ []) ∙ ap (λ b. b || ((pipe x == pipe y) || false)) prefix ∙ ap (λ b. b || false) last,
        distinct_more xs x h.1 apart.1,
      )

  -- one more is kept
  pub kept_more : (old new : ℕ → Bool) (xs ys : List A) (x : A) → IsIndexed pipe old xs → old (pipe x) ≡ false → ((q : ℕ) → new q ≡ cond (pipe x == q) true (old q)) → ys ≡ xs ++ x ∷ [] → IsIndexed pipe new ys
  kept_more old new xs ys x h none u e =
      rw e (λ q. u q ∙ ap (λ b. cond (pipe x == q) true b) (h.0 q) ∙ or_last (pipe x == q) (list_any (is_of pipe q) xs) ∙ sym (list_any-append (is_of pipe q) xs (x ∷ [])), distinct_more xs x h.1 (sym (h.0 (pipe x)) ∙ none))

  any_left : (p q : ℕ) (xs : List A) → list_any (is_of pipe q) (filter (λ x. not (is_of pipe p x)) xs) ≡ cond (p == q) false (list_any (is_of pipe q) xs)
  any_left p q [] = none (p == q)
    where
      none : (b : Bool) → false ≡ cond b false false
      none true = refl
      none false = refl
  any_left p q (x ∷ xs) = go (pipe x == p) refl (pipe x == q) refl (p == q) refl (any_left p q xs)
    where
      rest : List A
      rest = filter (λ x. not (is_of pipe p x)) xs

      go : (a : Bool) → (pipe x == p) ≡ a → (b : Bool) → (pipe x == q) ≡ b → (c : Bool) → (p == q) ≡ c → list_any (is_of pipe q) rest ≡ cond c false (list_any (is_of pipe q) xs)
          → list_any (is_of pipe q) (cond (not a) (x ∷ rest) rest) ≡ cond c false (b || list_any (is_of pipe q) xs)
      go true e b f true g k = k
      go true e true f false g k = absurd (clash (pipe x) p q e f g)
      go true e false f false g k = k
      go false e true f true g k = absurd (meet (pipe x) p q e f g)
      go false e true f false g k = ap (λ b. b || list_any (is_of pipe q) rest) f
      go false e false f c g k = ap (λ b. b || list_any (is_of pipe q) rest) f ∙ k

  pub distinct_left : (p : ℕ) (xs : List A) → AreDistinct (map pipe xs) → AreDistinct (map pipe (filter (λ x. not (is_of pipe p x)) xs))
  distinct_left p [] h = tt
  distinct_left p (x ∷ xs) h = go (pipe x == p) (distinct_left p xs h.1)
    where
      rest : List A
      rest = filter (λ x. not (is_of pipe p x)) xs

      no : (b : Bool) → cond b false false ≡ false
      no true = refl
      no false = refl

      none : has (map pipe rest) (pipe x) ≡ false
      none = any_has rest (pipe x) ∙ any_left p (pipe x) xs ∙ ap (λ b. cond (p == pipe x) false b) (sym (any_has xs (pipe x)) ∙ h.0) ∙ no (p == pipe x)

      go : (a : Bool) → AreDistinct (map pipe rest) → AreDistinct (map pipe (cond (not a) (x ∷ rest) rest))
      go true k = k
      go false k = (none, k)

  -- what is kept of a pipe is dropped
  pub kept_left : (old new : ℕ → Bool) (p : ℕ) (xs ys : List A) → IsIndexed pipe old xs → ((q : ℕ) → new q ≡ cond (p == q) false (old q)) → ys ≡ filter (λ x. not (is_of pipe p x)) xs → IsIndexed pipe new ys
  kept_left old new p xs ys h u e = rw e (λ q. u q ∙ ap (λ b. cond (p == q) false b) (h.0 q) ∙ sym (any_left p q xs), distinct_left p xs h.1)

  -- nothing is kept of the pipe
  pub kept_all : (p : ℕ) (xs : List A) → list_any (is_of pipe p) xs ≡ false → xs ≡ filter (λ x. not (is_of pipe p x)) xs
  kept_all p [] h = refl
  kept_all p (x ∷ xs) h = go (pipe x == p) h (kept_all p xs)
    where
      rest : List A
      rest = filter (λ x. not (is_of pipe p x)) xs

      go : (a : Bool) → (a || list_any (is_of pipe p) xs) ≡ false → (list_any (is_of pipe p) xs ≡ false → xs ≡ rest) → x ∷ xs ≡ cond (not a) (x ∷ rest) rest
      go true h k = absurd cc
      go false h k = ap (λ ys. x ∷ ys) (k h)
