-- What is known of operations that wait, when one more comes, one is taken out, or requests end.
use Rattle.std.proofs.Common.{◌≡◌, refl, ap, sym, subst, ◌∙◌, List, [], ◌∷◌, ◌++◌, ℕ, zero, suc, ◌+◌, ◌<◌, ◌≤◌, Bool, true, false, cond, arith, Option, Some, None, map, length, take, drop, filter, slice_index_or}
use Rattle.std.specs.Prelude.{not, find, ◌||◌, ◌&&◌, ◌==◌}
use Rattle.std.specs.List.{list_any, position}
use Rattle.std.specs.Option.{option_map}
use Rattle.std.proofs.lemmas.List.Folds.{list_any-append}
use Rattle.std.proofs.lemmas.List.Sums.{position_or_len_is}
use Rattle.sp_base.specs.declared.OpName.{OpName}
use Rattle.sp_history.specs.Lists.{has}
use Rattle.sp_history.specs.Once.{AreDistinct}
use Rattle.sp_history.proofs.OnceHolds.{same_op-slot}
use Rattle.proto_requests.specs.declared.spots.Spot.{Spot}
use Rattle.proto_requests.specs.Backlogs.{is_of, IsIndexed}
use Rattle.proto_requests.specs.FirstFound.{without_found, reached}
use Rattle.proto_requests.specs.Spots.{any_in, holds, with_value, held, stays}
use Rattle.proto_requests.specs.Waits.{is_named, slot_of, is_open, left_on, left_spot, IsMark}
use Rattle.proto_requests.proofs.Backlogged.{kept_more, kept_left}
use Rattle.proto_requests.proofs.NumberIndexes.{index_less, index_same}
use Rattle.proto_requests.proofs.PortsInOrder.{at_place_is}
use Rattle.proto_requests.proofs.FirstPlaces.{none_reached}
use Rattle.proto_requests.proofs.Spotted.{inside}
use Rattle.proto_requests.proofs.TestValues.{both_false, equal_of, or_true, same_number, turned}

module _ {A : Type 0} where
  some_is : (x y : A) → Some x ≡ Some y → x ≡ y
  some_is x y q = cc

  stands : (P : A → Bool) (o : Option A) → any_in P o ≡ true → (x : A) × (o ≡ Some x) × (P x ≡ true)
  stands P None h = absurd cc
  stands P (Some x) h = (x, refl, h)

  -- ---- The one that is looked for

  module _ (key : A → ℕ) where
    has_there : (ss : List (Spot A)) (i : ℕ) (d : Spot A) (w : A) → i < length ss → (slice_index_or ss i d).value ≡ Some w → has (map key (held ss)) (key w) ≡ true
    has_there [] i d w l e = absurd (omega (arith, l))
    has_there (s ∷ ss) zero d w l e = subst (λ o. has (map key (with_value o (held ss))) (key w) ≡ true) (sym e) (ap (λ b. b || has (map key (held ss)) (key w)) (same_number (key w)))
    has_there (s ∷ ss) (suc i) d w l e = go s.value (has_there ss i d w (omega (arith, l)) e)
      where
        go : (v : Option A) → has (map key (held ss)) (key w) ≡ true → has (map key (with_value v (held ss))) (key w) ≡ true
        go None h = h
        go (Some x) h = ap (λ b. (key x == key w) || b) h ∙ or_true (key x == key w)

    rest_distinct : (v : Option A) (xs : List A) → AreDistinct (map key (with_value v xs)) → AreDistinct (map key xs)
    rest_distinct None xs h = h
    rest_distinct (Some x) xs h = h.1

    apart : (ss : List (Spot A)) (k i : ℕ) (d : Spot A) (v w : A) → AreDistinct (map key (held ss)) → k < i → i < length ss → (slice_index_or ss k d).value ≡ Some v → (slice_index_or ss i d).value ≡ Some w → key v ≡ key w → ⊥
    apart [] k i d v w h l m e f same = absurd (omega (arith, m))
    apart (s ∷ ss) zero zero d v w h l m e f same = absurd (omega (arith, l))
    apart (s ∷ ss) zero (suc i) d v w h l m e f same =
        let first : AreDistinct (map key (with_value (Some v) (held ss))) = subst (λ o. AreDistinct (map key (with_value o (held ss)))) e h in
        let bad : false ≡ true = sym first.0 ∙ ap (has (map key (held ss))) same ∙ has_there ss i d w (omega (arith, m)) f in absurd cc
    apart (s ∷ ss) (suc k) zero d v w h l m e f same = absurd (omega (arith, l))
    apart (s ∷ ss) (suc k) (suc i) d v w h l m e f same = apart ss k i d v w (rest_distinct s.value (held ss) h) (omega (arith, l)) (omega (arith, m)) e f same

    -- where no two have the same number, the one that is found is the first
    pub at_spot : (ss : List (Spot A)) (i : ℕ) (d : Spot A) (P : A → Bool) → AreDistinct (map key (held ss)) → i < length ss → holds P (slice_index_or ss i d) ≡ true → ((v w : A) → P v ≡ true → P w ≡ true → key v ≡ key w) → Some i ≡ position (holds P) ss
    at_spot ss i d P h l t s = sym (at_place_is _ _ _ (position_or_len_is (holds P) ss i d (omega (arith, l)) (λ k m. early k m (holds P (slice_index_or ss k d)) refl) (λ m. t)) l)
      where
        early : (k : ℕ) → k < i → (b : Bool) → holds P (slice_index_or ss k d) ≡ b → holds P (slice_index_or ss k d) ≡ false
        early k m false e = e
        early k m true e =
            let v = stands P (slice_index_or ss k d).value e in
            let w = stands P (slice_index_or ss i d).value t in
            absurd (apart ss k i d v.0 w.0 h m l v.1 w.1 (s v.0 w.0 v.2 w.2))

  -- the same, only for those of some kind
  module _ (key : A → ℕ) (R : A → Bool) where
    kind_there : (ss : List (Spot A)) (i : ℕ) (d : Spot A) (w : A) → i < length ss → (slice_index_or ss i d).value ≡ Some w → R w ≡ true → has (map key (filter R (held ss))) (key w) ≡ true
    kind_there [] i d w l e r = absurd (omega (arith, l))
    kind_there (s ∷ ss) zero d w l e r = subst (λ o. has (map key (filter R (with_value o (held ss)))) (key w) ≡ true) (sym e) (rw r (ap (λ b. b || has (map key (filter R (held ss))) (key w)) (same_number (key w))))
    kind_there (s ∷ ss) (suc i) d w l e r = go s.value (kind_there ss i d w (omega (arith, l)) e r)
      where
        go : (v : Option A) → has (map key (filter R (held ss))) (key w) ≡ true → has (map key (filter R (with_value v (held ss)))) (key w) ≡ true
        go None h = h
        go (Some x) h = step (R x)
          where
            step : (b : Bool) → has (map key (cond b (x ∷ filter R (held ss)) (filter R (held ss)))) (key w) ≡ true
            step true = ap (λ b. (key x == key w) || b) h ∙ or_true (key x == key w)
            step false = h

    kind_rest : (v : Option A) (xs : List A) → AreDistinct (map key (filter R (with_value v xs))) → AreDistinct (map key (filter R xs))
    kind_rest None xs h = h
    kind_rest (Some x) xs h = go (R x) h
      where
        go : (b : Bool) → AreDistinct (map key (cond b (x ∷ filter R xs) (filter R xs))) → AreDistinct (map key (filter R xs))
        go true h = h.1
        go false h = h

    kind_apart : (ss : List (Spot A)) (k i : ℕ) (d : Spot A) (v w : A) → AreDistinct (map key (filter R (held ss))) → k < i → i < length ss → (slice_index_or ss k d).value ≡ Some v → (slice_index_or ss i d).value ≡ Some w → R v ≡ true → R w ≡ true → key v ≡ key w → ⊥
    kind_apart [] k i d v w h l m e f p r same = absurd (omega (arith, m))
    kind_apart (s ∷ ss) zero zero d v w h l m e f p r same = absurd (omega (arith, l))
    kind_apart (s ∷ ss) zero (suc i) d v w h l m e f p r same =
        let first : AreDistinct (map key (filter R (v ∷ held ss))) = subst (λ o. AreDistinct (map key (filter R (with_value o (held ss))))) e h in
        let second : AreDistinct (map key (cond true (v ∷ filter R (held ss)) (filter R (held ss)))) = subst (λ b. AreDistinct (map key (cond b (v ∷ filter R (held ss)) (filter R (held ss))))) p first in
        let bad : false ≡ true = sym second.0 ∙ ap (has (map key (filter R (held ss)))) same ∙ kind_there ss i d w (omega (arith, m)) f r in absurd cc
    kind_apart (s ∷ ss) (suc k) zero d v w h l m e f p r same = absurd (omega (arith, l))
    kind_apart (s ∷ ss) (suc k) (suc i) d v w h l m e f p r same = kind_apart ss k i d v w (kind_rest s.value (held ss) h) (omega (arith, l)) (omega (arith, m)) e f p r same

    pub kind_spot : (ss : List (Spot A)) (i : ℕ) (d : Spot A) (P : A → Bool) → AreDistinct (map key (filter R (held ss))) → i < length ss → holds P (slice_index_or ss i d) ≡ true → ((v : A) → P v ≡ true → R v ≡ true) → ((v w : A) → P v ≡ true → P w ≡ true → key v ≡ key w) → Some i ≡ position (holds P) ss
    kind_spot ss i d P h l t q s = sym (at_place_is _ _ _ (position_or_len_is (holds P) ss i d (omega (arith, l)) (λ k m. early k m (holds P (slice_index_or ss k d)) refl) (λ m. t)) l)
      where
        early : (k : ℕ) → k < i → (b : Bool) → holds P (slice_index_or ss k d) ≡ b → holds P (slice_index_or ss k d) ≡ false
        early k m false e = e
        early k m true e =
            let v = stands P (slice_index_or ss k d).value e in
            let w = stands P (slice_index_or ss i d).value t in
            absurd (kind_apart ss k i d v.0 w.0 h m l v.1 w.1 (q v.0 v.2) (q w.0 w.2) (s v.0 w.0 v.2 w.2))

  pub kind_is : (context : A → ℕ) (R : A → Bool) (c : ℕ) (v : A) → (R v && (context v == c)) ≡ true → R v ≡ true
  kind_is context R c v h = go (R v) h
    where
      go : (b : Bool) → (b && (context v == c)) ≡ true → b ≡ true
      go true h = refl
      go false h = absurd cc

  on_context : (context : A → ℕ) (R : A → Bool) (c : ℕ) (v : A) → (R v && (context v == c)) ≡ true → context v ≡ c
  on_context context R c v h = go (R v) (context v == c) refl h
    where
      go : (a b : Bool) → (context v == c) ≡ b → (a && b) ≡ true → context v ≡ c
      go false b e h = absurd cc
      go true true e h = equal_of (context v) c e
      go true false e h = absurd cc

  pub same_context : (context : A → ℕ) (R : A → Bool) (c : ℕ) (v w : A) → (R v && (context v == c)) ≡ true → (R w && (context w == c)) ≡ true → context v ≡ context w
  same_context context R c v w h k = on_context context R c v h ∙ sym (on_context context R c w k)

  pub same_slot : (name : A → OpName) (op : OpName) (v w : A) → is_named name op v ≡ true → is_named name op w ≡ true → slot_of name v ≡ slot_of name w
  same_slot name op v w h k = same_op-slot (name v) op h ∙ sym (same_op-slot (name w) op k)

  -- ---- Only those that pass a test

  pub find_kept : (P R : A → Bool) (xs : List A) (x : A) → find P xs ≡ Some x → R x ≡ true → find P (filter R xs) ≡ Some x
  find_kept P R [] x f r = absurd cc
  find_kept P R (y ∷ ys) x f r = go (P y) refl f (λ q. find_kept P R ys x q r)
    where
      go : (b : Bool) → P y ≡ b → cond b (Some y) (find P ys) ≡ Some x → (find P ys ≡ Some x → find P (filter R ys) ≡ Some x) → find P (cond (R y) (y ∷ filter R ys) (filter R ys)) ≡ Some x
      go true e f again = let it : R y ≡ true = ap R (some_is y x f) ∙ r in rw it (rw e f)
      go false e f again = step (R y) (again f)
        where
          step : (b : Bool) → find P (filter R ys) ≡ Some x → find P (cond b (y ∷ filter R ys) (filter R ys)) ≡ Some x
          step true k = rw e k
          step false k = k

  pub rest_kept : (P R : A → Bool) (xs : List A) (x : A) → find P xs ≡ Some x → R x ≡ true → filter R (without_found P xs) ≡ without_found P (filter R xs)
  rest_kept P R [] x f r = refl
  rest_kept P R (y ∷ ys) x f r = go (P y) refl f (λ q. rest_kept P R ys x q r)
    where
      go : (b : Bool) → P y ≡ b → cond b (Some y) (find P ys) ≡ Some x → (find P ys ≡ Some x → filter R (without_found P ys) ≡ without_found P (filter R ys))
          → filter R (cond b ys (y ∷ without_found P ys)) ≡ without_found P (cond (R y) (y ∷ filter R ys) (filter R ys))
      go true e f again = let it : R y ≡ true = ap R (some_is y x f) ∙ r in rw it (rw e refl)
      go false e f again = step (R y) (again f)
        where
          step : (b : Bool) → filter R (without_found P ys) ≡ without_found P (filter R ys) → cond b (y ∷ filter R (without_found P ys)) (filter R (without_found P ys)) ≡ without_found P (cond b (y ∷ filter R ys) (filter R ys))
          step true k = rw e (ap (λ (l : List A). y ∷ l) k)
          step false k = k

  pub rest_other : (P R : A → Bool) (xs : List A) (x : A) → find P xs ≡ Some x → R x ≡ false → filter R (without_found P xs) ≡ filter R xs
  rest_other P R [] x f r = refl
  rest_other P R (y ∷ ys) x f r = go (P y) f (λ q. rest_other P R ys x q r)
    where
      go : (b : Bool) → cond b (Some y) (find P ys) ≡ Some x → (find P ys ≡ Some x → filter R (without_found P ys) ≡ filter R ys) → filter R (cond b ys (y ∷ without_found P ys)) ≡ cond (R y) (y ∷ filter R ys) (filter R ys)
      go true f again = let it : R y ≡ false = ap R (some_is y x f) ∙ r in rw it refl
      go false f again = ap (λ (l : List A). cond (R y) (y ∷ l) l) (again f)

  pub filter_more : (R : A → Bool) (xs ys : List A) → filter R (xs ++ ys) ≡ filter R xs ++ filter R ys
  filter_more R [] ys = refl
  filter_more R (x ∷ xs) ys = go (R x) (filter_more R xs ys)
    where
      go : (b : Bool) → filter R (xs ++ ys) ≡ filter R xs ++ filter R ys → cond b (x ∷ filter R (xs ++ ys)) (filter R (xs ++ ys)) ≡ cond b (x ∷ filter R xs) (filter R xs) ++ filter R ys
      go true k = ap (λ (l : List A). x ∷ l) k
      go false k = k

  filter_changed : (R : A → Bool) (f : A → A) (xs : List A) → ((x : A) → R (f x) ≡ R x) → filter R (map f xs) ≡ map f (filter R xs)
  filter_changed R f [] s = refl
  filter_changed R f (x ∷ xs) s = ap (λ b. cond b (f x ∷ filter R (map f xs)) (filter R (map f xs))) (s x) ∙ go (R x) (filter_changed R f xs s)
    where
      go : (b : Bool) → filter R (map f xs) ≡ map f (filter R xs) → cond b (f x ∷ filter R (map f xs)) (filter R (map f xs)) ≡ map f (cond b (x ∷ filter R xs) (filter R xs))
      go true k = ap (λ (l : List A). f x ∷ l) k
      go false k = k

  keys_changed : (key : A → ℕ) (f : A → A) (xs : List A) → ((x : A) → key (f x) ≡ key x) → map key (map f xs) ≡ map key xs
  keys_changed key f [] s = refl
  keys_changed key f (x ∷ xs) s = ap (λ n. n ∷ map key (map f xs)) (s x) ∙ ap (λ (l : List ℕ). key x ∷ l) (keys_changed key f xs s)

  -- ---- Those of some kind, by their contexts

  module _ (context : A → ℕ) (R : A → Bool) where
    pub kind_less : (P : A → Bool) (old new : ℕ → Bool) (is_one : Bool) (n : ℕ) (xs ys : List A) (x : A) → IsIndexed context old (filter R xs) → find P xs ≡ Some x → is_one ≡ R x → n ≡ context x → ((q : ℕ) → new q ≡ cond is_one (cond (n == q) false (old q)) (old q)) → ys ≡ without_found P xs → IsIndexed context new (filter R ys)
    kind_less P old new is_one n xs ys x h f i j u e = rw e (go is_one i u)
      where
        go : (b : Bool) → b ≡ R x → ((q : ℕ) → new q ≡ cond b (cond (n == q) false (old q)) (old q)) → IsIndexed context new (filter R (without_found P xs))
        go false s u = let same = rest_other P R xs x f (sym s) in rw same (λ q. u q ∙ h.0 q, h.1)
        go true s u = index_less context P old new (filter R xs) (filter R (without_found P xs)) x h (find_kept P R xs x f (sym s)) (λ q. u q ∙ ap (λ m. cond (m == q) false (old q)) j) (rest_kept P R xs x f (sym s))

    pub kind_more : (old new : ℕ → Bool) (is_one : Bool) (n : ℕ) (xs ys : List A) (x : A) → IsIndexed context old (filter R xs) → is_one ≡ R x → n ≡ context x → (is_one ≡ false → (q : ℕ) → new q ≡ old q) → (is_one ≡ true → (old n ≡ false) × ((q : ℕ) → new q ≡ cond (n == q) true (old q))) → ys ≡ xs ++ x ∷ [] → IsIndexed context new (filter R ys)
    kind_more old new is_one n xs ys x h i j s r e = rw (e, filter_more R xs (x ∷ [])) (subst (λ b. IsIndexed context new (filter R xs ++ cond b (x ∷ []) [])) i (go is_one s r))
      where
        end : (l : List A) → l ++ [] ≡ l
        end [] = refl
        end (y ∷ l) = ap (λ (k : List A). y ∷ k) (end l)

        go : (b : Bool) → (b ≡ false → (q : ℕ) → new q ≡ old q) → (b ≡ true → (old n ≡ false) × ((q : ℕ) → new q ≡ cond (n == q) true (old q))) → IsIndexed context new (filter R xs ++ cond b (x ∷ []) [])
        go false s r = rw (end (filter R xs)) (λ q. s refl q ∙ h.0 q, h.1)
        go true s r = let k = r refl in kept_more context old new (filter R xs) _ x h (ap old (sym j) ∙ k.0) (λ q. k.1 q ∙ ap (λ m. cond (m == q) true (old q)) j) refl

    pub kind_changed : (known : ℕ → Bool) (f : A → A) (xs ys : List A) → ((x : A) → context (f x) ≡ context x) → ((x : A) → R (f x) ≡ R x) → ys ≡ map f xs → IsIndexed context known (filter R xs) → IsIndexed context known (filter R ys)
    kind_changed known f xs ys s t e h =
        let rest = filter_changed R f xs t in
        rw (e, rest) (index_same context known (filter R xs) (map f (filter R xs)) h (keys_changed context f (filter R xs) s))

    pub kind_same : (old new : ℕ → Bool) (xs ys : List A) → IsIndexed context old (filter R xs) → ((q : ℕ) → new q ≡ old q) → ys ≡ xs → IsIndexed context new (filter R ys)
    kind_same old new xs ys h u e = rw e (λ q. u q ∙ h.0 q, h.1)

  pub slots_changed : (key : A → ℕ) (known : ℕ → Bool) (f : A → A) (xs ys : List A) → ((x : A) → key (f x) ≡ key x) → ys ≡ map f xs → IsIndexed key known xs → IsIndexed key known ys
  slots_changed key known f xs ys s e h = rw e (index_same key known xs (map f xs) h (keys_changed key f xs s))

  pub all_same : (key : A → ℕ) (old new : ℕ → Bool) (xs ys : List A) → IsIndexed key old xs → ((q : ℕ) → new q ≡ old q) → ys ≡ xs → IsIndexed key new ys
  all_same key old new xs ys h u e = rw e (λ q. u q ∙ h.0 q, h.1)

  pub any_kind : (context : A → ℕ) (R : A → Bool) (c : ℕ) (xs : List A) → list_any (is_of context c) (filter R xs) ≡ list_any (λ x. R x && (context x == c)) xs
  any_kind context R c [] = refl
  any_kind context R c (x ∷ xs) = go (R x) (any_kind context R c xs)
    where
      go : (b : Bool) → list_any (is_of context c) (filter R xs) ≡ list_any (λ x. R x && (context x == c)) xs → list_any (is_of context c) (cond b (x ∷ filter R xs) (filter R xs)) ≡ (b && (context x == c) || list_any (λ x. R x && (context x == c)) xs)
      go true k = ap (λ v. (context x == c) || v) k
      go false k = k

  -- no send of the context is open
  opens_left : (context : A → ℕ) (sends is_left : A → Bool) (left : A → A) → ((x : A) → is_left (left x) ≡ true) → (c : ℕ) (xs : List A) → filter (is_open sends is_left) (map (left_on context left c) xs) ≡ filter (λ x. not (is_of context c x)) (filter (is_open sends is_left) xs)
  opens_left context sends is_left left over c [] = refl
  opens_left context sends is_left left over c (x ∷ xs) = go (c == context x) refl (is_open sends is_left x) refl (opens_left context sends is_left left over c xs)
    where
      R : A → Bool
      R = is_open sends is_left

      N : A → Bool
      N x = not (is_of context c x)

      shut : (b : Bool) → (b && false) ≡ false
      shut true = refl
      shut false = refl

      go : (b : Bool) → (c == context x) ≡ b → (o : Bool) → is_open sends is_left x ≡ o → filter R (map (left_on context left c) xs) ≡ filter N (filter R xs)
          → cond (R (cond b (left x) x)) (cond b (left x) x ∷ filter R (map (left_on context left c) xs)) (filter R (map (left_on context left c) xs)) ≡ filter N (cond o (x ∷ filter R xs) (filter R xs))
      go true e o f k = let no : R (left x) ≡ false = ap (λ b. sends (left x) && not b) (over x) ∙ shut (sends (left x)) in rw no (k ∙ drops o)
        where
          drops : (o : Bool) → filter N (filter R xs) ≡ filter N (cond o (x ∷ filter R xs) (filter R xs))
          drops true = let it : (context x == c) ≡ true = turned c (context x) true e in rw it refl
          drops false = refl
      go false e true f k = let it : (context x == c) ≡ false = turned c (context x) false e in rw (f, it) (ap (λ (l : List A). x ∷ l) k)
      go false e false f k = rw f k

  pub opens_less : (context : A → ℕ) (sends is_left : A → Bool) (left : A → A) → ((x : A) → is_left (left x) ≡ true) → (old new : ℕ → Bool) (c : ℕ) (xs ys : List A) → IsIndexed context old (filter (is_open sends is_left) xs) → ((q : ℕ) → new q ≡ cond (c == q) false (old q)) → ys ≡ map (left_on context left c) xs → IsIndexed context new (filter (is_open sends is_left) ys)
  opens_less context sends is_left left over old new c xs ys h u e = rw e (kept_left context old new c (filter (is_open sends is_left) xs) _ h u (opens_left context sends is_left left over c xs))

  -- ---- Those that are gone, or none

  pub any_more : (P : A → Bool) (xs ys : List A) (x : A) → ys ≡ xs ++ x ∷ [] → list_any P xs ≡ false → P x ≡ false → list_any P ys ≡ false
  any_more P xs ys x e h k = ap (list_any P) e ∙ list_any-append P xs (x ∷ []) ∙ ap (λ v. v || (P x || false)) h ∙ ap (λ v. v || false) k

  any_without : (P Q : A → Bool) (xs : List A) → list_any P xs ≡ false → list_any P (without_found Q xs) ≡ false
  any_without P Q [] h = refl
  any_without P Q (x ∷ xs) h = let b = both_false (P x) (list_any P xs) h in go (Q x) b.0 b.1 (any_without P Q xs b.1)
    where
      go : (b : Bool) → P x ≡ false → list_any P xs ≡ false → list_any P (without_found Q xs) ≡ false → list_any P (cond b xs (x ∷ without_found Q xs)) ≡ false
      go true e f k = f
      go false e f k = ap (λ v. v || list_any P (without_found Q xs)) e ∙ k

  pub any_less : (P Q : A → Bool) (xs ys : List A) → ys ≡ without_found Q xs → list_any P xs ≡ false → list_any P ys ≡ false
  any_less P Q xs ys e h = ap (list_any P) e ∙ any_without P Q xs h

  -- what stays the same when requests end
  pub on_same : {B : Type 0} (key : A → B) (context : A → ℕ) (left : A → A) (c : ℕ) → ((x : A) → key (left x) ≡ key x) → (x : A) → key (left_on context left c x) ≡ key x
  on_same key context left c s x = go (c == context x)
    where
      go : (b : Bool) → key (cond b (left x) x) ≡ key x
      go true = s x
      go false = refl

  pub held_left : (context : A → ℕ) (left : A → A) (c : ℕ) (ss : List (Spot A)) → held (map (left_spot context left c) ss) ≡ map (left_on context left c) (held ss)
  held_left context left c [] = refl
  held_left context left c (s ∷ ss) = go s.value (held_left context left c ss)
    where
      go : (v : Option A) → held (map (left_spot context left c) ss) ≡ map (left_on context left c) (held ss) → with_value (option_map (left_on context left c) v) (held (map (left_spot context left c) ss)) ≡ map (left_on context left c) (with_value v (held ss))
      go None k = k
      go (Some x) k = ap (λ (l : List A). left_on context left c x ∷ l) k

  -- ---- Marks

  longer : (ss : List (Spot A)) (s : Spot A) → length (ss ++ s ∷ []) ≡ length ss + 1
  longer [] s = refl
  longer (r ∷ ss) s = let k = longer ss s in omega (arith, k)

  length_left : (context : A → ℕ) (left : A → A) (c : ℕ) (ss : List (Spot A)) → length (map (left_spot context left c) ss) ≡ length ss
  length_left context left c [] = refl
  length_left context left c (s ∷ ss) = let k = length_left context left c ss in omega (arith, k)

  module _ (P : A → Bool) where
    prefix : (n : ℕ) (ss : List (Spot A)) (s : Spot A) → n ≤ length ss → list_any (holds P) (take n ss) ≡ false → list_any (holds P) (take n (ss ++ s ∷ [])) ≡ false
    prefix zero ss s l h = refl
    prefix (suc n) [] s l h = absurd (omega (arith, l))
    prefix (suc n) (r ∷ ss) s l h = let b = both_false (holds P r) (list_any (holds P) (take n ss)) h in ap (λ v. v || list_any (holds P) (take n (ss ++ s ∷ []))) b.0 ∙ prefix n ss s (omega (arith, l)) b.1

    -- one more comes after them
    pub mark_more : (moved : Bool) (from : ℕ) (ss ts ys : List (Spot A)) (s : Spot A) → (moved ≡ false → ts ≡ ss) → ys ≡ ts ++ s ∷ [] → IsMark P from ss → IsMark P (stays moved from) ys
    mark_more true from ss ts ys s f e h = record { bound = omega arith; none = refl }
    mark_more false from ss ts ys s f e h =
        let it : ys ≡ ss ++ s ∷ [] = e ∙ ap (λ (l : List (Spot A)). l ++ s ∷ []) (f refl) in
        let long = longer ss s in
        let bound = h.bound in
        rw it (record { bound = omega (arith, long, bound); none = prefix from ss s h.bound h.none })

    -- they are moved together, or stay
    pub mark_kept : (moved : Bool) (from k : ℕ) (ss us : List (Spot A)) → k ≡ stays moved from → (moved ≡ false → us ≡ ss) → IsMark P from ss → IsMark P k us
    mark_kept true from k ss us e f h = rw e (record { bound = omega arith; none = refl })
    mark_kept false from k ss us e f h = let same = f refl in rw (e, same) h

    -- the first one was looked up
    pub mark_found : (o : Option ℕ) (l k : ℕ) (ss : List (Spot A)) → k ≡ reached o l → l ≡ length ss → o ≡ position (holds P) ss → IsMark P k ss
    mark_found o l k ss e f h = record { bound = go o e (λ i q. inside P ss i (sym h ∙ q)); none = none_reached (holds P) o l k ss e f h }
      where
        go : (o : Option ℕ) → k ≡ reached o l → ((i : ℕ) → o ≡ Some i → i < length ss) → k ≤ length ss
        go None e g = omega (arith, e, f)
        go (Some i) e g = let b = g i refl in omega (arith, e, b)

    pub mark_less : (n : ℕ) (ss ts : List (Spot A)) → length ts ≡ length ss → (list_any (holds P) (take n ss) ≡ false → list_any (holds P) (take n ts) ≡ false) → IsMark P n ss → IsMark P n ts
    mark_less n ss ts e f h = let b = h.bound in record { bound = omega (arith, e, b); none = f h.none }

    none_left : (context : A → ℕ) (left : A → A) (c : ℕ) → ((x : A) → P (left_on context left c x) ≡ P x) → (n : ℕ) (ss : List (Spot A)) → list_any (holds P) (take n ss) ≡ false → list_any (holds P) (take n (map (left_spot context left c) ss)) ≡ false
    none_left context left c s zero ss h = refl
    none_left context left c s (suc n) [] h = refl
    none_left context left c s (suc n) (r ∷ ss) h = let b = both_false (holds P r) (list_any (holds P) (take n ss)) h in ap (λ v. v || list_any (holds P) (take n (map (left_spot context left c) ss))) (go r.value ∙ b.0) ∙ none_left context left c s n ss b.1
      where
        go : (v : Option A) → any_in P (option_map (left_on context left c) v) ≡ any_in P v
        go None = refl
        go (Some x) = s x

    pub mark_left : (context : A → ℕ) (left : A → A) (c : ℕ) → ((x : A) → P (left_on context left c x) ≡ P x) → (n : ℕ) (ss ts : List (Spot A)) → ts ≡ map (left_spot context left c) ss → IsMark P n ss → IsMark P n ts
    mark_left context left c s n ss ts e h = let k = length_left context left c ss in let b = h.bound in rw e (record { bound = omega (arith, k, b); none = none_left context left c s n ss h.none })

    -- the one at the first spot
    pub found_from : (Q : A → Bool) → ((x : A) → Q x ≡ true → P x ≡ true) → (n : ℕ) (ss ts : List (Spot A)) → ts ≡ drop n ss → list_any (holds P) (take n ss) ≡ false → find Q (held ts) ≡ find Q (held ss)
    found_from Q s n ss ts e h = rw e (go n ss h)
      where
        isnt_it : (v : A) (b : Bool) → Q v ≡ b → P v ≡ false → b ≡ false
        isnt_it v false e f = refl
        isnt_it v true e f = let bad : true ≡ false = sym (s v e) ∙ f in absurd cc

        skip : (v : Option A) (xs : List A) → any_in P v ≡ false → find Q xs ≡ find Q (with_value v xs)
        skip None xs h = refl
        skip (Some x) xs h = let no : Q x ≡ false = isnt_it x (Q x) refl h in rw no refl

        go : (n : ℕ) (ss : List (Spot A)) → list_any (holds P) (take n ss) ≡ false → find Q (held (drop n ss)) ≡ find Q (held ss)
        go zero ss h = refl
        go (suc n) [] h = refl
        go (suc n) (r ∷ ss) h = let b = both_false (holds P r) (list_any (holds P) (take n ss)) h in go n ss b.1 ∙ skip r.value (held ss) b.0

pub both_true : (a b : Bool) → (a && b) ≡ true → (a ≡ true) × (b ≡ true)
both_true true true h = (refl, refl)
both_true true false h = absurd cc
both_true false b h = absurd cc

pub not_false : (b : Bool) → not b ≡ true → b ≡ false
not_false true h = absurd cc
not_false false h = refl

pub length_more : {A : Type 0} (xs : List A) (x : A) → length (xs ++ x ∷ []) ≡ length xs + 1
length_more [] x = refl
length_more (y ∷ ys) x = let k = length_more ys x in omega (arith, k)

-- the slot of the one that was found
pub slot_is : {A : Type 0} (name : A → OpName) (op : OpName) (xs : List A) (x : A) → find (is_named name op) xs ≡ Some x → op.slot ≡ slot_of name x
slot_is name op [] x f = absurd cc
slot_is name op (y ∷ ys) x f = go (is_named name op y) refl f (λ q. slot_is name op ys x q)
  where
    go : (b : Bool) → is_named name op y ≡ b → cond b (Some y) (find (is_named name op) ys) ≡ Some x → (find (is_named name op) ys ≡ Some x → op.slot ≡ slot_of name x) → op.slot ≡ slot_of name x
    go true e f again = sym (same_op-slot (name y) op e) ∙ ap (slot_of name) (some_is y x f)
    go false e f again = again f
