-- Spots, one of which is emptied, and what is in the others.
use Rattle.std.proofs.Common.{◌≡◌, refl, ap, sym, ◌∙◌, List, [], ◌∷◌, ◌++◌, ℕ, zero, suc, ◌+◌, ◌<◌, ◌≤◌, Bool, true, false, cond, arith, Option, Some, None, length, take, drop, slice_index_or, slice_set}
use Rattle.std.specs.Prelude.{Vec, find, filter, is_some, ◌||◌, Result, Ok, Err, OnOk}
use Rattle.std.specs.List.{list_any, position}
use Rattle.std.specs.Option.{option_map}
use Rattle.std.proofs.lemmas.List.Quantifiers.{position-Some}
use Rattle.proto_requests.specs.declared.spots.Spot.{Spot}
use Rattle.proto_requests.specs.FirstFound.{without_found, with_found}
use Rattle.proto_requests.specs.Spots.{any_in, holds, with_value, held, changed, stays}
use Rattle.proto_requests.proofs.Positions.{not_found}
use Rattle.std.proofs.lemmas.List.{with_items_is}
use Rattle.std.specs.Vec.{with_items}
use Rattle.proto_requests.proofs.TestValues.{both_false}

-- the spot, empty
abbrev pub emptied : {A : Type 0} → Spot A → Spot A
emptied s = record { number = s.number; value = None }

module _ {A : Type 0} where
  -- ---- Moved together

  pub kept_held : (ss : List (Spot A)) → held (filter (λ (s : Spot A). is_some s.value) ss) ≡ held ss
  kept_held [] = refl
  kept_held (s ∷ ss) = go s.value refl (kept_held ss)
    where
      go : (v : Option A) → s.value ≡ v → held (filter (λ (s : Spot A). is_some s.value) ss) ≡ held ss → held (cond (is_some v) (s ∷ filter (λ (s : Spot A). is_some s.value) ss) (filter (λ (s : Spot A). is_some s.value) ss)) ≡ with_value v (held ss)
      go None e h = h
      go (Some x) e h = ap (λ v. with_value v (held (filter (λ (s : Spot A). is_some s.value) ss))) e ∙ ap (λ (l : List A). x ∷ l) h

  pub kept_len : (ss : List (Spot A)) → length (filter (λ (s : Spot A). is_some s.value) ss) ≡ length (held ss)
  kept_len [] = refl
  kept_len (s ∷ ss) = go s.value (kept_len ss)
    where
      go : (v : Option A) → length (filter (λ (s : Spot A). is_some s.value) ss) ≡ length (held ss) → length (cond (is_some v) (s ∷ filter (λ (s : Spot A). is_some s.value) ss) (filter (λ (s : Spot A). is_some s.value) ss)) ≡ length (with_value v (held ss))
      go None h = h
      go (Some x) h = omega (arith, h)

  -- ---- Emptied

  stands : (P : A → Bool) (v : Option A) (xs : List A) → any_in P v ≡ true → find P (with_value v xs) ≡ v
  stands P None xs h = absurd cc
  stands P (Some x) xs h = rw h refl

  takes : (P : A → Bool) (v : Option A) (xs : List A) → any_in P v ≡ true → xs ≡ without_found P (with_value v xs)
  takes P None xs h = absurd cc
  takes P (Some x) xs h = rw h refl

  passes : (P : A → Bool) (v : Option A) (xs : List A) → any_in P v ≡ false → find P (with_value v xs) ≡ find P xs
  passes P None xs h = refl
  passes P (Some x) xs h = rw h refl

  leaves : (P : A → Bool) (v : Option A) (xs ys : List A) → any_in P v ≡ false → ys ≡ without_found P xs → with_value v ys ≡ without_found P (with_value v xs)
  leaves P None xs ys h e = e
  leaves P (Some x) xs ys h e = rw h (ap (λ (l : List A). x ∷ l) e)

  finds : (P : A → Bool) (ss : List (Spot A)) (i : ℕ) (d : Spot A) → i < length ss → holds P (slice_index_or ss i d) ≡ true → ((k : ℕ) → k < i → holds P (slice_index_or ss k d) ≡ false) → find P (held ss) ≡ (slice_index_or ss i d).value
  finds P [] i d l t b = absurd (omega (arith, l))
  finds P (s ∷ ss) zero d l t b = stands P s.value (held ss) t
  finds P (s ∷ ss) (suc i) d l t b = passes P s.value (held ss) (b 0 (omega arith)) ∙ finds P ss i d (omega (arith, l)) t (λ k m. b (suc k) (omega (arith, m)))

  rests : (P : A → Bool) (ss : List (Spot A)) (i : ℕ) (d : Spot A) → i < length ss → holds P (slice_index_or ss i d) ≡ true → ((k : ℕ) → k < i → holds P (slice_index_or ss k d) ≡ false) → held (slice_set ss i (emptied (slice_index_or ss i d))) ≡ without_found P (held ss)
  rests P [] i d l t b = absurd (omega (arith, l))
  rests P (s ∷ ss) zero d l t b = takes P s.value (held ss) t
  rests P (s ∷ ss) (suc i) d l t b = leaves P s.value (held ss) _ (b 0 (omega arith)) (rests P ss i d (omega (arith, l)) t (λ k m. b (suc k) (omega (arith, m))))

  pub found_there : (P : A → Bool) (ss : List (Spot A)) (i : ℕ) (d : Spot A) → position (holds P) ss ≡ Some i → find P (held ss) ≡ (slice_index_or ss i d).value
  found_there P ss i d h = let at = position-Some (holds P) ss i d h in finds P ss i d at.0 at.1 at.2

  pub without_there : (P : A → Bool) (ss : List (Spot A)) (i : ℕ) (d : Spot A) → position (holds P) ss ≡ Some i → held (slice_set ss i (emptied (slice_index_or ss i d))) ≡ without_found P (held ss)
  without_there P ss i d h = let at = position-Some (holds P) ss i d h in rests P ss i d at.0 at.1 at.2

  -- no more pass the test
  pub none_there : (P : A → Bool) (n : ℕ) (ss : List (Spot A)) (i : ℕ) (d : Spot A) → list_any (holds P) (take n ss) ≡ false → list_any (holds P) (take n (slice_set ss i (emptied (slice_index_or ss i d)))) ≡ false
  none_there P zero ss i d h = refl
  none_there P (suc n) [] i d h = h
  none_there P (suc n) (s ∷ ss) zero d h = let b = both_false (holds P s) (list_any (holds P) (take n ss)) h in b.1
  none_there P (suc n) (s ∷ ss) (suc i) d h = let b = both_false (holds P s) (list_any (holds P) (take n ss)) h in ap (λ v. v || list_any (holds P) (take n (slice_set ss i (emptied (slice_index_or ss i d))))) b.0 ∙ none_there P n ss i d b.1

  -- ---- Tests

  pub any_held : (P : A → Bool) (ss : List (Spot A)) → list_any (holds P) ss ≡ list_any P (held ss)
  any_held P [] = refl
  any_held P (s ∷ ss) = ap (λ b. any_in P s.value || b) (any_held P ss) ∙ go s.value
    where
      go : (v : Option A) → (any_in P v || list_any P (held ss)) ≡ list_any P (with_value v (held ss))
      go None = refl
      go (Some x) = refl

  pub held_more : (ss : List (Spot A)) (s : Spot A) → held (ss ++ s ∷ []) ≡ held ss ++ with_value s.value []
  held_more [] s = go s.value
    where
      go : (v : Option A) → with_value v [] ≡ [] ++ with_value v []
      go None = refl
      go (Some x) = refl
  held_more (r ∷ ss) s = go r.value (held_more ss s)
    where
      go : (v : Option A) → held (ss ++ s ∷ []) ≡ held ss ++ with_value s.value [] → with_value v (held (ss ++ s ∷ [])) ≡ with_value v (held ss) ++ with_value s.value []
      go None h = h
      go (Some x) h = ap (λ (l : List A). x ∷ l) h

  -- ---- Looked for

  pub not_there : (P : A → Bool) (ss : List (Spot A)) → position (holds P) ss ≡ None → find P (held ss) ≡ None
  not_there P ss h = go ss (not_found (holds P) ss h)
    where
      step : (s : Spot A) (ss : List (Spot A)) (b : Bool) → holds P s ≡ b → cond b (Some s) (find (holds P) ss) ≡ None → (find (holds P) ss ≡ None → find P (held ss) ≡ None) → find P (with_value s.value (held ss)) ≡ None
      step s ss true q f again = absurd cc
      step s ss false q f again = passes P s.value (held ss) q ∙ again f

      go : (ss : List (Spot A)) → find (holds P) ss ≡ None → find P (held ss) ≡ None
      go [] e = refl
      go (s ∷ ss) e = step s ss (holds P s) refl e (go ss)

  -- where one is, something is there
  pub stands_there : (P : A → Bool) (ss : List (Spot A)) (i : ℕ) (d : Spot A) → position (holds P) ss ≡ Some i → (slice_index_or ss i d).value ≡ None → ⊥
  stands_there P ss i d h e = let at = position-Some (holds P) ss i d h in let bad : false ≡ true = ap (any_in P) (sym e) ∙ at.1 in absurd cc

  pub inside : (P : A → Bool) (ss : List (Spot A)) (i : ℕ) → position (holds P) ss ≡ Some i → i < length ss
  inside P [] i h = let bad : ◌≡◌ {A = Option ℕ} None (Some i) = h in absurd cc
  inside P (s ∷ ss) i h = (position-Some (holds P) (s ∷ ss) i s h).0

pub none_find : {A : Type 0} (P : A → Bool) (xs : List A) → list_any P xs ≡ false → find P xs ≡ None
none_find P [] h = refl
none_find P (x ∷ xs) h = go (P x) h (none_find P xs)
  where
    go : (b : Bool) → (b || list_any P xs) ≡ false → (list_any P xs ≡ false → find P xs ≡ None) → cond b (Some x) (find P xs) ≡ None
    go true h k = absurd cc
    go false h k = k h

pub held_few : {A : Type 0} (ss : List (Spot A)) → length (held ss) ≤ length ss
held_few {A} [] = omega arith
held_few {A} (s ∷ ss) = go s.value (held_few ss)
  where
    go : (v : Option A) → length (held ss) ≤ length ss → length (with_value v (held ss)) ≤ suc (length ss)
    go None k = omega (arith, k)
    go (Some x) k = omega (arith, k)

pub items_are : {A Z : Type 0} (v : Vec A Z) (ts : List A) → length ts ≡ length v.items → (with_items v ts).items ≡ ts
items_are v ts e = with_items_is v ts (e ∙ sym v.ok.0)

pub mapped : {A B : Type 0} (f : A → B) (o : Option A) (y : B) → Some y ≡ option_map f o → (x : A) × (o ≡ Some x) × (f x ≡ y)
mapped f None y h = absurd cc
mapped {A} {B} f (Some x) y h = (x, refl, it (f x) y h)
  where
    it : (a b : B) → Some b ≡ Some a → a ≡ b
    it a b q = cc

pub unmapped : {A B : Type 0} (f : A → B) (o : Option A) → None ≡ option_map f o → o ≡ None
unmapped f None h = refl
unmapped f (Some x) h = absurd cc

-- one that is there is found
pub never : {A : Type 0} (P : A → Bool) (ss : List (Spot A)) (i : ℕ) → position (holds P) ss ≡ Some i → None ≡ find P (held ss) → ⊥
never {A} P ss i h e = let d : Spot A = record { number = 0; value = None } in stands_there P ss i d h (sym (found_there P ss i d h) ∙ sym e)

pub on_ok : {A E : Type 0} (r : Result A E) (P : Type 0) → P → OnOk r P
on_ok (Ok a) P h = h
on_ok (Err e) P h = tt

pub fewer_one : {A : Type 0} (P : A → Bool) (xs : List A) (x : A) → find P xs ≡ Some x → length (without_found P xs) + 1 ≡ length xs
fewer_one P [] x f = absurd cc
fewer_one P (y ∷ ys) x f = go (P y) f (λ q. fewer_one P ys x q)
  where
    go : (b : Bool) → cond b (Some y) (find P ys) ≡ Some x → (find P ys ≡ Some x → length (without_found P ys) + 1 ≡ length ys) → length (cond b ys (y ∷ without_found P ys)) + 1 ≡ suc (length ys)
    go true f again = omega arith
    go false f again = let k = again f in omega (arith, k)

-- ---- Changed

module _ {A : Type 0} (P : A → Bool) (f : A → A) where
  alters : (v : Option A) (xs : List A) → any_in P v ≡ true → with_value (option_map f v) xs ≡ with_found P f (with_value v xs)
  alters None xs h = absurd cc
  alters (Some x) xs h = rw h refl

  keeps : (v : Option A) (xs ys : List A) → any_in P v ≡ false → ys ≡ with_found P f xs → with_value v ys ≡ with_found P f (with_value v xs)
  keeps None xs ys h e = e
  keeps (Some x) xs ys h e = rw h (ap (λ (l : List A). x ∷ l) e)

  changes : (ss : List (Spot A)) (i : ℕ) (d : Spot A) → i < length ss → holds P (slice_index_or ss i d) ≡ true → ((k : ℕ) → k < i → holds P (slice_index_or ss k d) ≡ false) → held (slice_set ss i (changed f (slice_index_or ss i d))) ≡ with_found P f (held ss)
  changes [] i d l t b = absurd (omega (arith, l))
  changes (s ∷ ss) zero d l t b = alters s.value (held ss) t
  changes (s ∷ ss) (suc i) d l t b = keeps s.value (held ss) _ (b 0 (omega arith)) (changes ss i d (omega (arith, l)) t (λ k m. b (suc k) (omega (arith, m))))

  pub changed_there : (ss : List (Spot A)) (i : ℕ) (d : Spot A) → position (holds P) ss ≡ Some i → held (slice_set ss i (changed f (slice_index_or ss i d))) ≡ with_found P f (held ss)
  changed_there ss i d h = let at = position-Some (holds P) ss i d h in changes ss i d at.0 at.1 at.2

-- the same number are before a spot
pub prefix_same : {A : Type 0} (f : A → A) (n : ℕ) (ss : List (Spot A)) (i : ℕ) (d : Spot A) → length (held (take n (slice_set ss i (changed f (slice_index_or ss i d))))) ≡ length (held (take n ss))
prefix_same {A} f zero ss i d = refl
prefix_same {A} f (suc n) [] i d = refl
prefix_same {A} f (suc n) (s ∷ ss) zero d = go s.value
  where
    go : (v : Option A) → length (with_value (option_map f v) (held (take n ss))) ≡ length (with_value v (held (take n ss)))
    go None = refl
    go (Some x) = refl
prefix_same {A} f (suc n) (s ∷ ss) (suc i) d = go s.value (prefix_same f n ss i d)
  where
    go : (v : Option A) → length (held (take n (slice_set ss i (changed f (slice_index_or ss i d))))) ≡ length (held (take n ss)) → length (with_value v (held (take n (slice_set ss i (changed f (slice_index_or ss i d)))))) ≡ length (with_value v (held (take n ss)))
    go None h = h
    go (Some x) h = omega (arith, h)

-- ---- Those before a spot, and the others

module _ {A : Type 0} where
  pub prefix_is : (n : ℕ) (ss : List (Spot A)) → take (length (held (take n ss))) (held ss) ≡ held (take n ss)
  prefix_is zero ss = refl
  prefix_is (suc n) [] = refl
  prefix_is (suc n) (s ∷ ss) = go s.value (prefix_is n ss)
    where
      go : (v : Option A) → take (length (held (take n ss))) (held ss) ≡ held (take n ss) → take (length (with_value v (held (take n ss)))) (with_value v (held ss)) ≡ with_value v (held (take n ss))
      go None h = h
      go (Some x) h = ap (λ (l : List A). x ∷ l) h

  pub back_is : (n : ℕ) (ss : List (Spot A)) → held (drop n ss) ≡ drop (length (held (take n ss))) (held ss)
  back_is zero ss = refl
  back_is (suc n) [] = refl
  back_is (suc n) (s ∷ ss) = go s.value (back_is n ss)
    where
      go : (v : Option A) → held (drop n ss) ≡ drop (length (held (take n ss))) (held ss) → held (drop n ss) ≡ drop (length (with_value v (held (take n ss)))) (with_value v (held ss))
      go None h = h
      go (Some x) h = h

  -- none of those before the spot passes the test
  pub none_before_is : (P : A → Bool) (n : ℕ) (ss : List (Spot A)) → list_any P (take (length (held (take n ss))) (held ss)) ≡ list_any (holds P) (take n ss)
  none_before_is P n ss = ap (list_any P) (prefix_is n ss) ∙ sym (any_held P (take n ss))

  pub find_past : (P : A → Bool) (n : ℕ) (xs : List A) → list_any P (take n xs) ≡ false → find P xs ≡ find P (drop n xs)
  find_past P zero xs h = refl
  find_past P (suc n) [] h = refl
  find_past P (suc n) (x ∷ xs) h = let b = both_false (P x) (list_any P (take n xs)) h in rw b.0 (find_past P n xs b.1)

pub none_of_none : {A : Type 0} (P : A → Bool) (n : ℕ) (xs : List A) → n ≡ 0 → list_any P (take n xs) ≡ false
none_of_none P n xs e = rw e refl

-- ---- Moved together, or as it was

module _ {A : Type 0} where
  pub calm_closed : (P : A → Bool) (moved : Bool) (n k : ℕ) (ss us : List (Spot A)) → k ≡ stays moved n → (moved ≡ false → us ≡ ss) → list_any P (take (length (held (take n ss))) (held ss)) ≡ false → list_any P (take (length (held (take k us))) (held us)) ≡ false
  calm_closed P true n k ss us e s h = rw e refl
  calm_closed P false n k ss us e s h = let same = s refl in rw (e, same) h

  pub bound_closed : (moved : Bool) (n k : ℕ) (ss us : List (Spot A)) → k ≡ stays moved n → (moved ≡ false → us ≡ ss) → n ≤ length ss → k ≤ length us
  bound_closed true n k ss us e s h = omega (arith, e)
  bound_closed false n k ss us e s h = let same = ap length (s refl) in omega (arith, e, same, h)
