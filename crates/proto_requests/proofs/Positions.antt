-- The place of the first element of a list that passes a test, and loops that write each element.
use Rattle.std.proofs.Common.{◌≡◌, refl, ap, sym, Option, ◌∙◌, List, [], ◌∷◌, ◌++◌, ℕ, zero, suc, ◌+◌, Bool, true, false, cond, arith, Some, None, length, take, drop, map, slice_index_or, slice_set, ◌<◌, ◌≤◌, add-one}
use Rattle.std.specs.Prelude.{find, nat_lt, remove, ◌||◌, Vec}
use Rattle.proto_requests.specs.FirstFound.{without_found, with_found}
use Rattle.std.specs.List.{position, position_or_len, slice_get, list_any}
use Rattle.std.proofs.lemmas.Bool.Decides.{nat_tests}
use Rattle.std.proofs.lemmas.List.Quantifiers.{position-Some}
use Rattle.std.proofs.lemmas.List.Folds.{find_at}
use Rattle.std.proofs.lemmas.List.{with_items_is, length-map}
use Rattle.std.specs.Vec.{with_items}

first_is : {A : Type 0} (p : A → Bool) (xs : List A) (i : ℕ) (d : A) → i < length xs → p (slice_index_or xs i d) ≡ true → ((k : ℕ) → k < i → p (slice_index_or xs k d) ≡ false) → find p xs ≡ Some (slice_index_or xs i d)
first_is p [] i d h t b = absurd (omega arith)
first_is p (x ∷ xs) zero d h t b = rw t refl
first_is p (x ∷ xs) (suc i) d h t b =
    let no : p x ≡ false = b 0 (omega arith) in
    rw no (first_is p xs i d (omega (arith, h)) t (λ k l. b (suc k) (omega (arith, l))))

-- the place of the first is where it is
pub found_at : {A : Type 0} (p : A → Bool) (xs : List A) (i : ℕ) (d : A) → position p xs ≡ Some i → find p xs ≡ Some (slice_index_or xs i d)
found_at p xs i d h = let at = position-Some p xs i d h in first_is p xs i d at.0 at.1 at.2

nothing_past : {A : Type 0} (xs : List A) (n : ℕ) → length xs ≤ n → slice_get xs n ≡ None
nothing_past [] n h = refl
nothing_past (x ∷ xs) zero h = absurd (omega arith)
nothing_past (x ∷ xs) (suc n) h = nothing_past xs n (omega (arith, h))

pub not_found : {A : Type 0} (p : A → Bool) (xs : List A) → position p xs ≡ None → find p xs ≡ None
not_found p xs h = find_at p xs ∙ nothing_past xs (position_or_len p xs) (go (position_or_len p xs) (length xs) h)
  where
    go : (n m : ℕ) → cond (nat_lt n m) (Some n) None ≡ None → m ≤ n
    go n m h = grind (arith, nat_tests)

writes : {A : Type 0} (f : A → A) (xs : List A) (i : ℕ) (d : A) → i < length xs
    → slice_set (map f (take i xs) ++ drop i xs) i (f (slice_index_or (map f (take i xs) ++ drop i xs) i d)) ≡ map f (take (suc i) xs) ++ drop (suc i) xs
writes f [] i d h = absurd (omega arith)
writes f (x ∷ xs) zero d h = refl
writes f (x ∷ xs) (suc i) d h = ap (λ rest. f x ∷ rest) (writes f xs i d (omega (arith, h)))

-- one more element was written
pub written : {A : Type 0} (f : A → A) (xs ys : List A) (i : ℕ) (d v : A) → i < length xs → ys ≡ map f (take i xs) ++ drop i xs → v ≡ f (slice_index_or ys i d)
    → slice_set ys i v ≡ map f (take (i + 1) xs) ++ drop (i + 1) xs
written f xs ys i d v h e w =
    rw (w, e, add-one i) (writes f xs i d h)

-- ---- Taken out

pub without_none : {A : Type 0} (P : A → Bool) (xs : List A) → find P xs ≡ None → xs ≡ without_found P xs
without_none P [] h = refl
without_none P (x ∷ xs) h = go (P x) h (without_none P xs)
  where
    go : (b : Bool) → cond b (Some x) (find P xs) ≡ None → (find P xs ≡ None → xs ≡ without_found P xs) → x ∷ xs ≡ cond b xs (x ∷ without_found P xs)
    go true h again = absurd cc
    go false h again = ap (λ rest. x ∷ rest) (again h)

removes : {A : Type 0} (P : A → Bool) (xs : List A) (i : ℕ) (d : A) → i < length xs → P (slice_index_or xs i d) ≡ true → ((k : ℕ) → k < i → P (slice_index_or xs k d) ≡ false) → remove xs i ≡ without_found P xs
removes P [] i d h t b = absurd (omega arith)
removes P (x ∷ xs) zero d h t b = rw t refl
removes P (x ∷ xs) (suc i) d h t b =
    let no : P x ≡ false = b 0 (omega arith) in
    rw no (ap (λ rest. x ∷ rest) (removes P xs i d (omega (arith, h)) t (λ k l. b (suc k) (omega (arith, l)))))

pub without_at : {A : Type 0} (P : A → Bool) (xs : List A) (i : ℕ) (d : A) → position P xs ≡ Some i → remove xs i ≡ without_found P xs
without_at P xs i d h = let at = position-Some P xs i d h in removes P xs i d at.0 at.1 at.2

-- ---- Changed

pub with_none : {A : Type 0} (P : A → Bool) (f : A → A) (xs : List A) → find P xs ≡ None → xs ≡ with_found P f xs
with_none P f [] h = refl
with_none P f (x ∷ xs) h = go (P x) h (with_none P f xs)
  where
    go : (b : Bool) → cond b (Some x) (find P xs) ≡ None → (find P xs ≡ None → xs ≡ with_found P f xs) → x ∷ xs ≡ cond b (f x ∷ xs) (x ∷ with_found P f xs)
    go true h again = absurd cc
    go false h again = ap (λ rest. x ∷ rest) (again h)

sets : {A : Type 0} (P : A → Bool) (f : A → A) (xs : List A) (i : ℕ) (d : A) → i < length xs → P (slice_index_or xs i d) ≡ true → ((k : ℕ) → k < i → P (slice_index_or xs k d) ≡ false) → slice_set xs i (f (slice_index_or xs i d)) ≡ with_found P f xs
sets P f [] i d h t b = absurd (omega arith)
sets P f (x ∷ xs) zero d h t b = rw t refl
sets P f (x ∷ xs) (suc i) d h t b =
    let no : P x ≡ false = b 0 (omega arith) in
    rw no (ap (λ rest. x ∷ rest) (sets P f xs i d (omega (arith, h)) t (λ k l. b (suc k) (omega (arith, l)))))

pub with_at : {A : Type 0} (P : A → Bool) (f : A → A) (xs : List A) (i : ℕ) (d : A) → position P xs ≡ Some i → slice_set xs i (f (slice_index_or xs i d)) ≡ with_found P f xs
with_at P f xs i d h = let at = position-Some P xs i d h in sets P f xs i d at.0 at.1 at.2

-- ---- Nowhere

past_all : {A : Type 0} (P : A → Bool) (xs : List A) → list_any P xs ≡ false → position_or_len P xs ≡ length xs
past_all P [] h = refl
past_all P (x ∷ xs) h = go (P x) refl h (past_all P xs)
  where
    go : (b : Bool) → P x ≡ b → (b || list_any P xs) ≡ false → (list_any P xs ≡ false → position_or_len P xs ≡ length xs) → position_or_len P (x ∷ xs) ≡ length (x ∷ xs)
    go true e h again = absurd cc
    go false e h again = let k = again h in rw e (omega (arith, k))

pub nowhere : {A : Type 0} (P : A → Bool) (xs : List A) → list_any P xs ≡ false → None ≡ position P xs
nowhere P xs h = sym (go (position_or_len P xs) (length xs) (past_all P xs h))
  where
    go : (n l : ℕ) → n ≡ l → cond {A = Option ℕ} (nat_lt n l) (Some n) None ≡ None
    go n l e = grind (arith, nat_tests)

pub any_written : {A Z : Type 0} (f : A → A) (v : Vec A Z) (xs ys : List A) → ys ≡ v.items → xs ≡ map f ys → (with_items v xs).items ≡ map f v.items
any_written f v xs ys e h =
    let long : length xs ≡ length ys = ap length h ∙ length-map ys f in
    with_items_is v xs (long ∙ ap length e ∙ sym v.ok.0) ∙ h ∙ ap (map f) e
