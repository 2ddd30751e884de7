-- The numbers of a list with more of them, or without one.
use Rattle.std.proofs.Common.{◌≡◌, refl, ap, ◌∙◌, List, [], ◌∷◌, ◌++◌, ℕ, Bool, true, false, cond, arith}
use Rattle.std.specs.Prelude.{not, ◌||◌, ◌==◌}
use Rattle.std.proofs.lemmas.Bool.Decides.{nat_tests}
use Rattle.sp_history.specs.Lists.{has, without}
use Rattle.std.specs.List.{list_any}
use Rattle.proto_requests.proofs.TestValues.{same_number, or_true}

pub any_first : {A : Type 0} (P : A → Bool) (xs ys : List A) → list_any P xs ≡ true → list_any P (xs ++ ys) ≡ true
any_first P [] ys h = absurd cc
any_first P (x ∷ xs) ys h = go (P x) h (any_first P xs ys)
  where
    go : (b : Bool) → (b || list_any P xs) ≡ true → (list_any P xs ≡ true → list_any P (xs ++ ys) ≡ true) → (b || list_any P (xs ++ ys)) ≡ true
    go true h again = refl
    go false h again = again h

pub any_last : {A : Type 0} (P : A → Bool) (xs : List A) (x : A) → P x ≡ true → list_any P (xs ++ x ∷ []) ≡ true
any_last P [] x h = ap (λ b. b || false) h
any_last P (y ∷ ys) x h = ap (λ b. P y || b) (any_last P ys x h) ∙ or_true (P y)

pub has_first : (cs ds : List ℕ) (c : ℕ) → has cs c ≡ true → has (cs ++ ds) c ≡ true
has_first cs ds c h = any_first (λ n. n == c) cs ds h

pub has_still : (cs : List ℕ) (c d : ℕ) → has cs d ≡ true → (d == c) ≡ false → has (without cs c) d ≡ true
has_still [] c d h k = absurd cc
has_still (x ∷ cs) c d h k = go (x == c) refl (x == d) refl h (has_still cs c d)
  where
    third : (l m n : ℕ) → (l == m) ≡ true → (l == n) ≡ true → (n == m) ≡ false → ⊥
    third l m n h k f = grind (arith, nat_tests)

    go : (a : Bool) → (x == c) ≡ a → (b : Bool) → (x == d) ≡ b → (b || has cs d) ≡ true → (has cs d ≡ true → (d == c) ≡ false → has (without cs c) d ≡ true) → has (cond (not a) (x ∷ without cs c) (without cs c)) d ≡ true
    go true f true g h again = absurd (third x c d f g k)
    go true f false g h again = again h k
    go false f true g h again = rw g refl
    go false f false g h again = rw g (again h k)

pub has_last : (n : ℕ) (is : List ℕ) → has (is ++ n ∷ []) n ≡ true
has_last n [] = ap (λ b. b || false) (same_number n)
has_last n (i ∷ is) = ap (λ b. (i == n) || b) (has_last n is) ∙ last (i == n)
  where
    last : (b : Bool) → (b || true) ≡ true
    last true = refl
    last false = refl

pub or_last : (a b : Bool) → b ≡ true → (a || b) ≡ true
or_last true b h = refl
or_last false b h = h

pub or_both : (a b d : Bool) → (b ≡ true → d ≡ true) → (a || b) ≡ true → (a || d) ≡ true
or_both true b d k h = refl
or_both false b d k h = k h
