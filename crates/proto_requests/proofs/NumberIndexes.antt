-- What is known by the numbers of the elements of a list, when one is taken out or changed; and the place of one.
use Rattle.std.proofs.Common.{◌≡◌, refl, ap, sym, subst, ◌∙◌, List, [], ◌∷◌, ℕ, zero, suc, ◌<◌, Bool, true, false, cond, arith, Option, Some, None, map, length, slice_index_or}
use Rattle.std.specs.Prelude.{not, find, is_some, ◌||◌, ◌==◌}
use Rattle.std.specs.List.{list_any, position}
use Rattle.std.proofs.lemmas.List.Sums.{position_or_len_is}
use Rattle.sp_history.specs.Lists.{has}
use Rattle.sp_history.specs.Once.{AreDistinct}
use Rattle.proto_requests.specs.Backlogs.{is_of, IsIndexed}
use Rattle.proto_requests.specs.FirstFound.{without_found, with_found}
use Rattle.proto_requests.proofs.Backlogged.{any_has}
use Rattle.proto_requests.proofs.PortsInOrder.{at_place_is}
use Rattle.proto_requests.proofs.TestValues.{both_false, equal_of, or_true, same_number, some_inj}

pub is_not : (b : Bool) → not b ≡ false → b ≡ true
is_not true h = refl
is_not false h = absurd cc

pub some_put : (b : Bool) (n : ℕ) (o : Option ℕ) → is_some (cond b (Some n) o) ≡ cond b true (is_some o)
some_put true n o = refl
some_put false n o = refl

pub some_lost : (b : Bool) (o : Option ℕ) → is_some (cond {A = Option ℕ} b None o) ≡ cond b false (is_some o)
some_lost true o = refl
some_lost false o = refl

module _ {A : Type 0} (key : A → ℕ) where
  found_has : (P : A → Bool) (ys : List A) (x : A) → find P ys ≡ Some x → has (map key ys) (key x) ≡ true
  found_has P [] x f = absurd cc
  found_has P (y ∷ ys) x f = go (P y) f (found_has P ys x)
    where
      go : (b : Bool) → cond b (Some y) (find P ys) ≡ Some x → (find P ys ≡ Some x → has (map key ys) (key x) ≡ true) → ((key y == key x) || has (map key ys) (key x)) ≡ true
      go true f again = ap (λ (v : A). (key v == key x) || has (map key ys) (key x)) (some_inj y x f) ∙ ap (λ b. b || has (map key ys) (key x)) (same_number (key x))
      go false f again = ap (λ b. (key y == key x) || b) (again f) ∙ or_true (key y == key x)

  any_less : (P : A → Bool) (q : ℕ) (xs : List A) (x : A) → AreDistinct (map key xs) → find P xs ≡ Some x → list_any (is_of key q) (without_found P xs) ≡ cond (key x == q) false (list_any (is_of key q) xs)
  any_less P q [] x h f = absurd cc
  any_less P q (y ∷ ys) x h f = go (P y) f (any_less P q ys x h.1)
    where
      here : (b : Bool) → (key y == q) ≡ b → list_any (is_of key q) ys ≡ cond b false (b || list_any (is_of key q) ys)
      here true e = sym (any_has key ys q) ∙ ap (has (map key ys)) (sym (equal_of (key y) q e)) ∙ h.0
      here false e = refl

      other : find P ys ≡ Some x → (key x == q) ≡ true → (b : Bool) → (key y == q) ≡ b → b ≡ false
      other f e false k = refl
      other f e true k =
          let same : key y ≡ key x = equal_of (key y) q k ∙ sym (equal_of (key x) q e) in
          let bad : false ≡ true = sym h.0 ∙ ap (has (map key ys)) same ∙ found_has P ys x f in absurd cc

      there : find P ys ≡ Some x → (b : Bool) → (key x == q) ≡ b → list_any (is_of key q) (without_found P ys) ≡ cond b false (list_any (is_of key q) ys)
          → ((key y == q) || list_any (is_of key q) (without_found P ys)) ≡ cond b false ((key y == q) || list_any (is_of key q) ys)
      there f true e k = ap (λ b. b || list_any (is_of key q) (without_found P ys)) (other f e (key y == q) refl) ∙ k
      there f false e k = ap (λ b. (key y == q) || b) k

      go : (b : Bool) → cond b (Some y) (find P ys) ≡ Some x → (find P ys ≡ Some x → list_any (is_of key q) (without_found P ys) ≡ cond (key x == q) false (list_any (is_of key q) ys))
          → list_any (is_of key q) (cond b ys (y ∷ without_found P ys)) ≡ cond (key x == q) false ((key y == q) || list_any (is_of key q) ys)
      go true f again = subst (λ (v : A). list_any (is_of key q) ys ≡ cond (key v == q) false ((key y == q) || list_any (is_of key q) ys)) (some_inj y x f) (here (key y == q) refl)
      go false f again = there f (key x == q) refl (again f)

  hasnt_less : (P : A → Bool) (ys : List A) (n : ℕ) → has (map key ys) n ≡ false → has (map key (without_found P ys)) n ≡ false
  hasnt_less P [] n h = refl
  hasnt_less P (y ∷ ys) n h = let no = both_false (key y == n) (has (map key ys) n) h in go (P y) no.0 no.1 (hasnt_less P ys n no.1)
    where
      go : (b : Bool) → (key y == n) ≡ false → has (map key ys) n ≡ false → has (map key (without_found P ys)) n ≡ false → has (map key (cond b ys (y ∷ without_found P ys))) n ≡ false
      go true e f k = f
      go false e f k = ap (λ b. b || has (map key (without_found P ys)) n) e ∙ k

  distinct_less : (P : A → Bool) (xs : List A) → AreDistinct (map key xs) → AreDistinct (map key (without_found P xs))
  distinct_less P [] h = tt
  distinct_less P (y ∷ ys) h = go (P y) (distinct_less P ys h.1)
    where
      go : (b : Bool) → AreDistinct (map key (without_found P ys)) → AreDistinct (map key (cond b ys (y ∷ without_found P ys)))
      go true k = h.1
      go false k = (hasnt_less P ys (key y) h.0, k)

  pub index_less : (P : A → Bool) (old new : ℕ → Bool) (xs ys : List A) (x : A) → IsIndexed key old xs → find P xs ≡ Some x → ((q : ℕ) → new q ≡ cond (key x == q) false (old q)) → ys ≡ without_found P xs → IsIndexed key new ys
  index_less P old new xs ys x h f u e = rw e (λ q. u q ∙ ap (λ b. cond (key x == q) false b) (h.0 q) ∙ sym (any_less P q xs x h.1 f), distinct_less P xs h.1)

  pub index_same : (known : ℕ → Bool) (xs ys : List A) → IsIndexed key known xs → map key ys ≡ map key xs → IsIndexed key known ys
  index_same known xs ys h e = (λ q. h.0 q ∙ sym (any_has key xs q) ∙ ap (λ (l : List ℕ). has l q) (sym e) ∙ any_has key ys q, subst AreDistinct (sym e) h.1)

  pub keys_with : (P : A → Bool) (f : A → A) (xs : List A) → ((x : A) → key (f x) ≡ key x) → map key (with_found P f xs) ≡ map key xs
  keys_with P f [] s = refl
  keys_with P f (x ∷ xs) s = go (P x) (keys_with P f xs s)
    where
      go : (b : Bool) → map key (with_found P f xs) ≡ map key xs → map key (cond b (f x ∷ xs) (x ∷ with_found P f xs)) ≡ key x ∷ map key xs
      go true k = ap (λ n. n ∷ map key xs) (s x)
      go false k = ap (λ (l : List ℕ). key x ∷ l) k

  has_at : (xs : List A) (i : ℕ) (d : A) → i < length xs → has (map key xs) (key (slice_index_or xs i d)) ≡ true
  has_at [] i d l = absurd (omega (arith, l))
  has_at (x ∷ xs) zero d l = ap (λ b. b || has (map key xs) (key x)) (same_number (key x))
  has_at (x ∷ xs) (suc i) d l = ap (λ b. (key x == key (slice_index_or xs i d)) || b) (has_at xs i d (omega (arith, l))) ∙ or_true (key x == key (slice_index_or xs i d))

  apart : (xs : List A) (k i : ℕ) (d : A) → AreDistinct (map key xs) → k < i → i < length xs → key (slice_index_or xs k d) ≡ key (slice_index_or xs i d) → ⊥
  apart [] k i d h l m e = absurd (omega (arith, m))
  apart (x ∷ xs) zero zero d h l m e = absurd (omega (arith, l))
  apart (x ∷ xs) zero (suc i) d h l m e = let bad : false ≡ true = sym h.0 ∙ ap (has (map key xs)) e ∙ has_at xs i d (omega (arith, m)) in absurd cc
  apart (x ∷ xs) (suc k) zero d h l m e = absurd (omega (arith, l))
  apart (x ∷ xs) (suc k) (suc i) d h l m e = apart xs k i d h.1 (omega (arith, l)) (omega (arith, m)) e

  -- where no two have the same number, the one that is found is the first
  pub at_place : (xs : List A) (i : ℕ) (d : A) (P : A → Bool) → AreDistinct (map key xs) → i < length xs → P (slice_index_or xs i d) ≡ true → ((v w : A) → P v ≡ true → P w ≡ true → key v ≡ key w) → Some i ≡ position P xs
  at_place xs i d P h l t s = sym (at_place_is _ _ _ (position_or_len_is P xs i d (omega (arith, l)) (λ k m. early k m (P (slice_index_or xs k d)) refl) (λ m. t)) l)
    where
      early : (k : ℕ) → k < i → (b : Bool) → P (slice_index_or xs k d) ≡ b → P (slice_index_or xs k d) ≡ false
      early k m false e = e
      early k m true e = absurd (apart xs k i d h m l (s _ _ e t))
