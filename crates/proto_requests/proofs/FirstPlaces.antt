-- Elements of a list that pass a test: none before the first, none of fewer elements, and the same from a place on.
use Rattle.std.proofs.Common.{◌≡◌, refl, ap, sym, ◌∙◌, List, [], ◌∷◌, ℕ, zero, suc, ◌+◌, ◌-◌, ◌≤◌, Bool, true, false, cond, arith, Option, Some, None, length, take, drop}
use Rattle.std.specs.Prelude.{not, nat_lt, ◌||◌}
use Rattle.std.specs.List.{list_any, position, position_or_len}
use Rattle.std.proofs.lemmas.Bool.Decides.{nat_tests}
use Rattle.proto_requests.specs.FirstFound.{reached, with_found}
use Rattle.proto_requests.proofs.TestValues.{both_false}

-- ---- The first of a list

pub none_fewer : {A : Type 0} (P : A → Bool) (k n : ℕ) (xs : List A) → k ≤ n → list_any P (take n xs) ≡ false → list_any P (take k xs) ≡ false
none_fewer P zero n xs l h = refl
none_fewer P (suc k) zero xs l h = absurd (omega (arith, l))
none_fewer P (suc k) (suc n) [] l h = refl
none_fewer P (suc k) (suc n) (x ∷ xs) l h = let b = both_false (P x) (list_any P (take n xs)) h in ap (λ v. v || list_any P (take k xs)) b.0 ∙ none_fewer P k n xs (omega (arith, l)) b.1

-- one is changed, and then does not pass
none_with : {A : Type 0} (P Q : A → Bool) (f : A → A) (n : ℕ) (xs : List A) → ((x : A) → P (f x) ≡ false) → list_any P (take n xs) ≡ false → list_any P (take n (with_found Q f xs)) ≡ false
none_with P Q f zero xs c h = refl
none_with P Q f (suc n) [] c h = refl
none_with P Q f (suc n) (x ∷ xs) c h =
    let b = both_false (P x) (list_any P (take n xs)) h in
    go (Q x) b.0 b.1 (none_with P Q f n xs c b.1)
  where
    go : (b : Bool) → P x ≡ false → list_any P (take n xs) ≡ false → list_any P (take n (with_found Q f xs)) ≡ false → list_any P (take (suc n) (cond b (f x ∷ xs) (x ∷ with_found Q f xs))) ≡ false
    go true e g again = ap (λ v. v || list_any P (take n xs)) (c x) ∙ g
    go false e g again = ap (λ v. v || list_any P (take n (with_found Q f xs))) e ∙ again

pub none_changed : {A : Type 0} (P Q : A → Bool) (f : A → A) (n : ℕ) (xs ys : List A) → ((x : A) → P (f x) ≡ false) → ys ≡ with_found Q f xs → list_any P (take n xs) ≡ false → list_any P (take n ys) ≡ false
none_changed P Q f n xs ys c e h = rw e (none_with P Q f n xs c h)

-- no more pass
pub none_as : {A : Type 0} (P Q : A → Bool) (xs : List A) → ((x : A) → Q x ≡ true → P x ≡ true) → list_any P xs ≡ false → list_any Q xs ≡ false
none_as P Q [] c h = refl
none_as P Q (x ∷ xs) c h = let b = both_false (P x) (list_any P xs) h in ap (λ v. v || list_any Q xs) (here (Q x) refl b.0) ∙ none_as P Q xs c b.1
  where
    here : (b : Bool) → Q x ≡ b → P x ≡ false → b ≡ false
    here false e f = refl
    here true e f = let bad : true ≡ false = sym (c x e) ∙ f in absurd cc

-- ---- Places

-- none before the first
pub none_before : {A : Type 0} (P : A → Bool) (xs : List A) → list_any P (take (position_or_len P xs) xs) ≡ false
none_before P [] = refl
none_before P (x ∷ xs) = go (P x) refl (none_before P xs)
  where
    go : (b : Bool) → P x ≡ b → list_any P (take (position_or_len P xs) xs) ≡ false → list_any P (take (cond (not b) (1 + position_or_len P xs) 0) (x ∷ xs)) ≡ false
    go true e h = refl
    go false e h = let next : 1 + position_or_len P xs ≡ suc (position_or_len P xs) = omega arith in rw next (ap (λ v. v || list_any P (take (position_or_len P xs) xs)) e ∙ h)

-- after those that don't pass, the first is found
past_first : {A : Type 0} (P : A → Bool) (n : ℕ) (xs : List A) → n ≤ length xs → list_any P (take n xs) ≡ false → position_or_len P xs ≡ n + position_or_len P (drop n xs)
past_first P zero xs l h = omega arith
past_first P (suc n) [] l h = absurd (omega (arith, l))
past_first P (suc n) (x ∷ xs) l h = let b = both_false (P x) (list_any P (take n xs)) h in let k = past_first P n xs (omega (arith, l)) b.1 in rw b.0 (omega (arith, k))

rest_long : {A : Type 0} (n : ℕ) (xs : List A) → n ≤ length xs → n + length (drop n xs) ≡ length xs
rest_long zero xs l = omega arith
rest_long (suc n) [] l = absurd (omega (arith, l))
rest_long (suc n) (x ∷ xs) l = let k = rest_long n xs (omega (arith, l)) in omega (arith, k)

pub place_past : {A : Type 0} (P : A → Bool) (n i : ℕ) (xs : List A) → n ≤ length xs → list_any P (take n xs) ≡ false → position P (drop n xs) ≡ Some i → Some (n + i) ≡ position P xs
place_past P n i xs l h e = go (position_or_len P (drop n xs)) (length (drop n xs)) (position_or_len P xs) (length xs) (past_first P n xs l h) (rest_long n xs l) e
  where
    go : (a b c d : ℕ) → c ≡ n + a → n + b ≡ d → cond {A = Option ℕ} (nat_lt a b) (Some a) None ≡ Some i → Some (n + i) ≡ cond {A = Option ℕ} (nat_lt c d) (Some c) None
    go a b c d e f g = step (nat_lt a b) refl g
      where
        its : Some a ≡ Some i → a ≡ i
        its q = cc

        step : (v : Bool) → nat_lt a b ≡ v → cond {A = Option ℕ} v (Some a) None ≡ Some i → Some (n + i) ≡ cond {A = Option ℕ} (nat_lt c d) (Some c) None
        step false q k = absurd cc
        step true q k = let same = its k in let below : nat_lt c d ≡ true = grind (arith, nat_tests) in rw below (ap (λ (m : ℕ). Some m) (omega (arith, e, same)))

pub nowhere_past : {A : Type 0} (P : A → Bool) (n : ℕ) (xs : List A) → n ≤ length xs → list_any P (take n xs) ≡ false → position P (drop n xs) ≡ None → None ≡ position P xs
nowhere_past P n xs l h e = go (position_or_len P (drop n xs)) (length (drop n xs)) (position_or_len P xs) (length xs) (past_first P n xs l h) (rest_long n xs l) e
  where
    go : (a b c d : ℕ) → c ≡ n + a → n + b ≡ d → cond {A = Option ℕ} (nat_lt a b) (Some a) None ≡ None → None ≡ cond {A = Option ℕ} (nat_lt c d) (Some c) None
    go a b c d e f g = step (nat_lt a b) refl g
      where
        step : (v : Bool) → nat_lt a b ≡ v → cond {A = Option ℕ} v (Some a) None ≡ None → None ≡ cond {A = Option ℕ} (nat_lt c d) (Some c) None
        step true q k = absurd cc
        step false q k = let not_below : nat_lt c d ≡ false = grind (arith, nat_tests) in rw not_below refl

-- where none before any place passes, none does
pub nowhere_all : {A : Type 0} (P : A → Bool) (n : ℕ) (xs : List A) → length xs ≤ n → list_any P (take n xs) ≡ false → list_any P xs ≡ false
nowhere_all P n [] l h = refl
nowhere_all P zero (x ∷ xs) l h = absurd (omega (arith, l))
nowhere_all P (suc n) (x ∷ xs) l h = let b = both_false (P x) (list_any P (take n xs)) h in ap (λ v. v || list_any P xs) b.0 ∙ nowhere_all P n xs (omega (arith, l)) b.1

-- before the place of the first, or the end
pub none_to : {A : Type 0} (P : A → Bool) (i : ℕ) (xs : List A) → Some i ≡ position P xs → list_any P (take i xs) ≡ false
none_to P i xs e = rw (same (position_or_len P xs) (length xs) e) (none_before P xs)
  where
    same : (a b : ℕ) → Some i ≡ cond {A = Option ℕ} (nat_lt a b) (Some a) None → i ≡ a
    same a b e = step (nat_lt a b) e
      where
        step : (v : Bool) → Some i ≡ cond {A = Option ℕ} v (Some a) None → i ≡ a
        step true q = cc
        step false q = absurd cc

pub none_at_all : {A : Type 0} (P : A → Bool) (n : ℕ) (xs : List A) → None ≡ position P xs → n ≡ length xs → list_any P (take n xs) ≡ false
none_at_all P n xs e f = none_fewer P n (position_or_len P xs) xs (let k = long (position_or_len P xs) (length xs) (sym e) in omega (arith, f, k)) (none_before P xs)
  where
    long : (a b : ℕ) → cond {A = Option ℕ} (nat_lt a b) (Some a) None ≡ None → b ≤ a
    long a b e = grind (arith, nat_tests)

-- the place that was found, or the end
pub none_reached : {A : Type 0} (P : A → Bool) (o : Option ℕ) (l k : ℕ) (xs : List A) → k ≡ reached o l → l ≡ length xs → o ≡ position P xs → list_any P (take k xs) ≡ false
none_reached P None l k xs e f h = none_at_all P k xs h (e ∙ f)
none_reached P (Some i) l k xs e f h = rw e (none_to P i xs h)

take_none : {A : Type 0} (n : ℕ) → take {A = A} n [] ≡ []
take_none zero = refl
take_none (suc n) = refl

take_whole : {A : Type 0} (xs : List A) → take (length xs) xs ≡ xs
take_whole [] = refl
take_whole (x ∷ xs) = ap (λ (rest : List _). x ∷ rest) (take_whole xs)

-- a slice from a place on
pub whole_rest : {A : Type 0} (n : ℕ) (xs : List A) → take (length xs - n) (drop n xs) ≡ drop n xs
whole_rest zero xs = let same : length xs - 0 ≡ length xs = omega arith in ap (λ (k : ℕ). take k xs) same ∙ take_whole xs
whole_rest (suc n) [] = take_none (0 - suc n)
whole_rest (suc n) (x ∷ xs) = let same : suc (length xs) - suc n ≡ length xs - n = omega arith in ap (λ (k : ℕ). take k (drop n xs)) same ∙ whole_rest n xs
