-- The place of the first element of a list that passes a test.
use Rattle.std.proofs.Common.{◌≡◌, refl, ◌∙◌, List, [], ◌∷◌, ℕ, zero, suc, Bool, true, false, cond, arith, Some, None, length, slice_index_or, ◌<◌, ◌≤◌}
use Rattle.std.specs.Prelude.{find, nat_lt}
use Rattle.std.specs.List.{position, position_or_len, slice_get}
use Rattle.std.proofs.lemmas.Bool.Decides.{nat_tests}
use Rattle.std.proofs.lemmas.List.Quantifiers.{position-Some}
use Rattle.std.proofs.lemmas.List.Folds.{find_at}

first_is : {A : Type 0} (p : A → Bool) (xs : List A) (i : ℕ) (d : A) → i < length xs → p (slice_index_or xs i d) ≡ true → ((k : ℕ) → k < i → p (slice_index_or xs k d) ≡ false) → find p xs ≡ Some (slice_index_or xs i d)
first_is p [] i d h t b = absurd (omega arith)
first_is p (x ∷ xs) zero d h t b = rw t refl
first_is p (x ∷ xs) (suc i) d h t b =
    let no : p x ≡ false = b 0 (omega arith) in
    rw no (first_is p xs i d (omega (arith, h)) t (λ k l. b (suc k) (omega (arith, l))))

-- the place of the first is where it is
pub found_at : {A : Type 0} (p : A → Bool) (xs : List A) (i : ℕ) (d : A) → position p xs ≡ Some i → find p xs ≡ Some (slice_index_or xs i d)
found_at p xs i d h = let at = position-Some p xs i d h in first_is p xs i d at.0 at.1 at.2

nothing_past : {A : Type 0} (xs : List A) (n : ℕ) → length xs ≤ n → slice_get xs n ≡ None
nothing_past [] n h = refl
nothing_past (x ∷ xs) zero h = absurd (omega arith)
nothing_past (x ∷ xs) (suc n) h = nothing_past xs n (omega (arith, h))

pub not_found : {A : Type 0} (p : A → Bool) (xs : List A) → position p xs ≡ None → find p xs ≡ None
not_found p xs h = find_at p xs ∙ nothing_past xs (position_or_len p xs) (go (position_or_len p xs) (length xs) h)
  where
    go : (n m : ℕ) → cond (nat_lt n m) (Some n) None ≡ None → m ≤ n
    go n m h = grind (arith, nat_tests)
