-- Whether a slot has an operation to give.
use Rattle.std.proofs.Common.{◌≡◌, refl, subst, List, [], ◌∷◌, ◌++◌, ℕ, zero, suc, ◌<◌, Bool, true, false, arith}
use Rattle.std.specs.Prelude.{◌&&◌, ◌==◌}
use Rattle.std.proofs.lemmas.Bool.Decides.{nat_tests}
use Rattle.std.specs.List.{list_all}
use Rattle.sp_history.specs.declared.entry.Entry.{Entry}
use Rattle.sp_history.specs.declared.setting.Setting.{Setting}
use Rattle.sp_history.specs.Found.{below, is_taken, has_no_slot}

all_more : (f : ℕ → Bool) (xs : List ℕ) (y : ℕ) → list_all f (xs ++ y ∷ []) ≡ true → (list_all f xs ≡ true) × (f y ≡ true)
all_more f [] y h = go (f y) h
  where
    go : (b : Bool) → (b && true) ≡ true → (true ≡ true) × (b ≡ true)
    go true h = (refl, refl)
    go false h = cc
all_more f (x ∷ xs) y h = go (f x) h (all_more f xs y)
  where
    go : (b : Bool) → (b && list_all f (xs ++ y ∷ [])) ≡ true → (list_all f (xs ++ y ∷ []) ≡ true → (list_all f xs ≡ true) × (f y ≡ true)) → ((b && list_all f xs) ≡ true) × (f y ≡ true)
    go true h again = again h
    go false h again = cc

more_all : (f : ℕ → Bool) (xs : List ℕ) (y : ℕ) → list_all f xs ≡ true → f y ≡ true → list_all f (xs ++ y ∷ []) ≡ true
more_all f [] y h k = rw k refl
more_all f (x ∷ xs) y h k = go (f x) h (λ a. more_all f xs y a k)
  where
    go : (b : Bool) → (b && list_all f xs) ≡ true → (list_all f xs ≡ true → list_all f (xs ++ y ∷ []) ≡ true) → (b && list_all f (xs ++ y ∷ [])) ≡ true
    go true h again = again h
    go false h again = cc

each_below : (f : ℕ → Bool) (n : ℕ) → list_all f (below n) ≡ true → (i : ℕ) → i < n → f i ≡ true
each_below f zero h i l = let none : ⊥ = omega (arith, l) in absurd none
each_below f (suc n) h i l = go (i == n) refl (λ k. each_below f n (all_more f (below n) n h).0 i k)
  where
    go : (b : Bool) → (i == n) ≡ b → (i < n → f i ≡ true) → f i ≡ true
    go true e again = let same : n ≡ i = grind (arith, nat_tests) in subst (λ (j : ℕ). f j ≡ true) same (all_more f (below n) n h).1
    go false e again = again (under e l)
      where
        under : (i == n) ≡ false → i < suc n → i < n
        under e l = grind (arith, nat_tests)

below_each : (f : ℕ → Bool) (n : ℕ) → ((i : ℕ) → i < n → f i ≡ true) → list_all f (below n) ≡ true
below_each f zero h = refl
below_each f (suc n) h = more_all f (below n) n (below_each f n (λ i l. h i (omega (arith, l)))) (h n (omega arith))

pub no_slot_means : (z : Setting) (past : List Entry) → has_no_slot z past ≡ true → (i : ℕ) → i < z.slots → is_taken past i ≡ true
no_slot_means z past = each_below (is_taken past) z.slots

pub no_slot_where : (z : Setting) (past : List Entry) → ((i : ℕ) → i < z.slots → is_taken past i ≡ true) → has_no_slot z past ≡ true
no_slot_where z past = below_each (is_taken past) z.slots
