-- The contexts of a sub are in the order of their numbers, so one is found by halving.
use Rattle.std.proofs.Common.{◌≡◌, refl, ap, sym, ◌∙◌, subst, List, [], ◌∷◌, ℕ, zero, suc, ◌+◌, ◌<◌, ◌≤◌, Bool, true, false, cond, arith, Option, Some, None, length, map, slice_index_or}
use Rattle.std.specs.Prelude.{find, filter, not, remove, is_some, nat_lt, ◌==◌, ◌||◌}
use Rattle.std.specs.List.{position, position_or_len, list_any}
use Rattle.std.specs.List.Sorted.{IsPartitionedBy}
use Rattle.std.proofs.lemmas.Bool.Decides.{nat_tests}
use Rattle.std.proofs.lemmas.List.Quantifiers.{position-Some}
use Rattle.sp_history.specs.declared.parts.Item.{Item}
use Rattle.sp_history.specs.Lists.{has}
use Rattle.proto_pubsub.specs.SubContexts.{SubContextView, is_of_context, ctx_of, AreOver, AreOrdered, InOrder}
use Rattle.proto_pubsub.specs.Subs.{context_at}
use Rattle.proto_pubsub.proofs.Knowing.{IsRising}

other : (m n : ℕ) → m < n → (m == n) ≡ false
other m n h = grind (arith, nat_tests)

above : (m n : ℕ) → m < n → (n == m) ≡ false
above m n h = grind (arith, nat_tests)

under : (m n : ℕ) → nat_lt m n ≡ true → m < n
under m n h = grind (arith, nat_tests)

pub equal_of : (m n : ℕ) → (m == n) ≡ true → m ≡ n
equal_of m n h = grind (arith, nat_tests)

same_number : (n : ℕ) → (n == n) ≡ true
same_number n = grind (arith, nat_tests)

at_place_is : (n m i : ℕ) → n ≡ i → i < m → cond (nat_lt n m) (Some n) None ≡ Some i
at_place_is n m i e l = go (nat_lt n m) refl
  where
    go : (b : Bool) → nat_lt n m ≡ b → cond b (Some n) None ≡ Some i
    go true q = ap (λ (k : ℕ). Some k) e
    go false q = absurd (no q)
      where
        no : nat_lt n m ≡ false → ⊥
        no q = grind (arith, nat_tests, l, e)

at_none : (n m : ℕ) → n ≡ m → cond {A = Option ℕ} (nat_lt n m) (Some n) None ≡ None
at_none n m l = grind (arith, nat_tests)

pub at_or_above : (m p : ℕ) → nat_lt m p ≡ false → (m == p) ≡ false → p < m
at_or_above m p e f = grind (arith, nat_tests)

-- its number is below this one
abbrev pub is_under : ℕ → SubContextView → Bool
is_under p x = nat_lt x.ctx p

over_at : (p : ℕ) (xs : List SubContextView) (k : ℕ) (d : SubContextView) → AreOver p (map ctx_of xs) → k < length xs → p < (slice_index_or xs k d).ctx
over_at p [] k d h l = absurd (omega (arith, l))
over_at p (x ∷ xs) zero d h l = h.0
over_at p (x ∷ xs) (suc k) d h l = over_at p xs k d h.1 (omega (arith, l))

-- the test of `partition_point`
pub parted : (p : ℕ) (xs : List SubContextView) → InOrder xs → IsPartitionedBy (is_under p) xs
parted p [] h i j d l m k = absurd (omega (arith, m))
parted p (x ∷ xs) h zero zero d l m k = k
parted p (x ∷ xs) h zero (suc j) d l m k = numbers x.ctx (slice_index_or xs j d).ctx (over_at x.ctx xs j d h.0 (omega (arith, m))) k
  where
    numbers : (m n : ℕ) → m < n → nat_lt n p ≡ true → nat_lt m p ≡ true
    numbers m n l h = grind (arith, nat_tests)
parted p (x ∷ xs) h (suc i) zero d l m k = absurd (omega (arith, l))
parted p (x ∷ xs) h (suc i) (suc j) d l m k = parted p xs h.1 i j d (omega (arith, l)) (omega (arith, m)) k

found_place : (xs : List SubContextView) (p i : ℕ) (d : SubContextView) → ((k : ℕ) (e : SubContextView) → k < i → is_under p (slice_index_or xs k e) ≡ true) → i < length xs → (slice_index_or xs i d).ctx ≡ p → position_or_len (is_of_context p) xs ≡ i
found_place [] p i d b l e = absurd (omega (arith, l))
found_place (x ∷ xs) p zero d b l e = let same : (x.ctx == p) ≡ true = ap (λ (n : ℕ). n == p) e ∙ same_number p in rw same refl
found_place (x ∷ xs) p (suc i) d b l e =
    let no : (x.ctx == p) ≡ false = other x.ctx p (under x.ctx p (b 0 x (omega arith))) in
    let rest = found_place xs p i d (λ k f m. b (suc k) f (omega (arith, m))) (omega (arith, l)) e in
    rw no (omega (arith, rest))

none_over : (xs : List SubContextView) (p q : ℕ) → p ≤ q → AreOver q (map ctx_of xs) → position_or_len (is_of_context p) xs ≡ length xs
none_over [] p q l h = refl
none_over (x ∷ xs) p q l h =
    let no : (x.ctx == p) ≡ false = above p x.ctx (omega (arith, l, h.0)) in
    let rest = none_over xs p q l h.1 in
    rw no (omega (arith, rest))

no_place : (xs : List SubContextView) (p i : ℕ) (d : SubContextView) → InOrder xs → ((k : ℕ) (e : SubContextView) → k < i → k < length xs → is_under p (slice_index_or xs k e) ≡ true) → (i < length xs → p < (slice_index_or xs i d).ctx) → position_or_len (is_of_context p) xs ≡ length xs
no_place [] p i d h b a = refl
no_place (x ∷ xs) p zero d h b a =
    let high : p < x.ctx = a (omega arith) in
    let no : (x.ctx == p) ≡ false = above p x.ctx high in
    let rest = none_over xs p x.ctx (omega (arith, high)) h.0 in
    rw no (omega (arith, rest))
no_place (x ∷ xs) p (suc i) d h b a =
    let no : (x.ctx == p) ≡ false = other x.ctx p (under x.ctx p (b 0 x (omega arith) (omega arith))) in
    let rest = no_place xs p i d h.1 (λ k e m n. b (suc k) e (omega (arith, m)) (omega (arith, n))) (λ l. a (omega (arith, l))) in
    rw no (omega (arith, rest))

-- the one at the place has this number
pub placed : (xs : List SubContextView) (p i : ℕ) (d : SubContextView) → ((k : ℕ) (e : SubContextView) → k < i → is_under p (slice_index_or xs k e) ≡ true) → i < length xs → (slice_index_or xs i d).ctx ≡ p → Some i ≡ position (is_of_context p) xs
placed xs p i d b l e = sym (at_place_is _ _ _ (found_place xs p i d b l e) l)

-- the one at the place has a higher number, if there is one
pub not_placed : (xs : List SubContextView) (p i : ℕ) (d : SubContextView) → InOrder xs → ((k : ℕ) (e : SubContextView) → k < i → k < length xs → is_under p (slice_index_or xs k e) ≡ true) → (i < length xs → p < (slice_index_or xs i d).ctx) → None ≡ position (is_of_context p) xs
not_placed xs p i d h b a = sym (at_none _ _ (no_place xs p i d h b a))

none_at_end : (xs : List SubContextView) (p : ℕ) → ((k : ℕ) (e : SubContextView) → k < length xs → is_under p (slice_index_or xs k e) ≡ true) → position_or_len (is_of_context p) xs ≡ length xs
none_at_end [] p b = refl
none_at_end (x ∷ xs) p b =
    let no : (x.ctx == p) ≡ false = other x.ctx p (under x.ctx p (b 0 x (omega arith))) in
    let rest = none_at_end xs p (λ k e m. b (suc k) e (omega (arith, m))) in
    rw no (omega (arith, rest))

-- all have lower numbers
pub all_lower : (xs : List SubContextView) (p : ℕ) → ((k : ℕ) (e : SubContextView) → k < length xs → is_under p (slice_index_or xs k e) ≡ true) → None ≡ position (is_of_context p) xs
all_lower xs p b = sym (at_none _ _ (none_at_end xs p b))

-- ---- Whether there is one

any_place : {A : Type 0} (P : A → Bool) (xs : List A) → list_any P xs ≡ nat_lt (position_or_len P xs) (length xs)
any_place P [] = refl
any_place P (x ∷ xs) = go (P x) (any_place P xs)
  where
    first : (n : ℕ) → true ≡ nat_lt 0 (suc n)
    first n = grind (arith, nat_tests)

    more : (m n : ℕ) → nat_lt m n ≡ nat_lt (1 + m) (suc n)
    more m n = grind (arith, nat_tests)

    go : (b : Bool) → list_any P xs ≡ nat_lt (position_or_len P xs) (length xs) → (b || list_any P xs) ≡ nat_lt (cond (not b) (1 + position_or_len P xs) 0) (suc (length xs))
    go true h = first (length xs)
    go false h = h ∙ more _ _

pub some_place : {A : Type 0} (P : A → Bool) (xs : List A) → is_some (position P xs) ≡ list_any P xs
some_place P xs = go (nat_lt (position_or_len P xs) (length xs)) ∙ sym (any_place P xs)
  where
    go : (b : Bool) → is_some (cond {A = Option ℕ} b (Some (position_or_len P xs)) None) ≡ b
    go true = refl
    go false = refl

-- ---- Without one

over_kept : (p q : ℕ) (xs : List SubContextView) → p ≤ q → AreOver q (map ctx_of xs) → xs ≡ filter (λ x. not (is_of_context p x)) xs
over_kept p q [] l h = refl
over_kept p q (x ∷ xs) l h = let no : (x.ctx == p) ≡ false = above p x.ctx (omega (arith, l, h.0)) in rw no (ap (λ (rest : List SubContextView). x ∷ rest) (over_kept p q xs l h.1))

pub shut_none : (p : ℕ) (xs : List SubContextView) → find (is_of_context p) xs ≡ None → xs ≡ filter (λ (x : SubContextView). not (is_of_context p x)) xs
shut_none p [] h = refl
shut_none p (x ∷ xs) h = go (x.ctx == p) h (shut_none p xs)
  where
    go : (b : Bool) → cond b (Some x) (find (is_of_context p) xs) ≡ None → (find (is_of_context p) xs ≡ None → xs ≡ filter (λ (y : SubContextView). not (is_of_context p y)) xs) → x ∷ xs ≡ cond (not b) (x ∷ filter (λ (y : SubContextView). not (is_of_context p y)) xs) (filter (λ (y : SubContextView). not (is_of_context p y)) xs)
    go true h again = absurd cc
    go false h again = ap (λ (rest : List SubContextView). x ∷ rest) (again h)

removed : (p : ℕ) (xs : List SubContextView) (i : ℕ) (d : SubContextView) → InOrder xs → i < length xs → is_of_context p (slice_index_or xs i d) ≡ true → ((k : ℕ) → k < i → is_of_context p (slice_index_or xs k d) ≡ false) → remove xs i ≡ filter (λ (x : SubContextView). not (is_of_context p x)) xs
removed p [] i d o l t b = absurd (omega (arith, l))
removed p (x ∷ xs) zero d o l t b = rw t (over_kept p x.ctx xs (let is = equal_of x.ctx p t in omega (arith, is)) o.0)
removed p (x ∷ xs) (suc i) d o l t b =
    let no : is_of_context p x ≡ false = b 0 (omega arith) in
    rw no (ap (λ (rest : List SubContextView). x ∷ rest) (removed p xs i d o.1 (omega (arith, l)) t (λ k m. b (suc k) (omega (arith, m)))))

pub shut_at : (p : ℕ) (xs : List SubContextView) (i : ℕ) (d : SubContextView) → InOrder xs → position (is_of_context p) xs ≡ Some i → remove xs i ≡ filter (λ (x : SubContextView). not (is_of_context p x)) xs
shut_at p xs i d o h = let at = position-Some (is_of_context p) xs i d h in removed p xs i d o at.0 at.1 at.2

-- the place that is returned, for a list that is the same
pub here : (P : SubContextView → Bool) (xs ys : List SubContextView) (r : Option ℕ) → ys ≡ xs → InOrder xs → (InOrder ys → r ≡ position P ys) → position P xs ≡ r
here P xs ys r e o h = sym (h (subst InOrder (sym e) o) ∙ ap (position P) e)

-- ---- As a past has them

pub numbers : (places : ℕ) (is : ℕ → List Item) (ts : ℕ → List (List ℕ)) (cs : List ℕ) → map ctx_of (map (context_at places is ts) cs) ≡ cs
numbers places is ts [] = refl
numbers places is ts (c ∷ cs) = ap (λ (rest : List ℕ). c ∷ rest) (numbers places is ts cs)

over_is : (n : ℕ) (cs : List ℕ) → ((d : ℕ) → has cs d ≡ true → n < d) → AreOver n cs
over_is n [] h = tt
over_is n (c ∷ cs) h = (h c (first c (has cs c)), over_is n cs (λ d q. h d (after (c == d) (has cs d) q)))
  where
    first : (n : ℕ) (b : Bool) → ((n == n) || b) ≡ true
    first n b = grind (arith, nat_tests)

    after : (a b : Bool) → b ≡ true → (a || b) ≡ true
    after true b q = refl
    after false b q = q

pub ordered_is : (cs : List ℕ) → IsRising cs → AreOrdered cs
ordered_is [] h = tt
ordered_is (c ∷ cs) h = (over_is c cs h.0, ordered_is cs h.1)
