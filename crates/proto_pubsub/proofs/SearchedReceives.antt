-- The place up to which the receives of a sub were looked at.
use Rattle.std.proofs.Common.{◌≡◌, refl, ap, sym, ◌∙◌, subst, List, [], ◌∷◌, ◌++◌, ℕ, zero, suc, ◌+◌, Bool, true, false, cond, arith, Option, Some, None, length, map, take, slice_index_or, ◌<◌, ◌≤◌, add-one}
use Rattle.std.specs.Prelude.{find, filter, not, remove, drop, nat_lt, ◌==◌, ◌||◌}
use Rattle.std.specs.List.{position, position_or_len, list_any}
use Rattle.std.proofs.lemmas.Bool.Decides.{nat_tests}
use Rattle.std.proofs.lemmas.List.Quantifiers.{position-Some}
use Rattle.sp_msg.specs.Views.{MessageView}
use Rattle.sp_history.specs.Lists.{is_nil}
use Rattle.proto_pubsub.specs.declared.subscribe.Subscribe.{Subscribe}
use Rattle.proto_pubsub.specs.declared.subscribe.WaitingReceive.{WaitingReceive}
use Rattle.proto_pubsub.specs.SubContexts.{SubContextView, is_of_context, with_found, given_from, emptied, fresh_context, switched}
use Rattle.proto_pubsub.specs.Subs.{NoneBefore, is_ready, is_kept, keeps_at}
use Rattle.proto_pubsub.proofs.SubContexts.{not_found}

neither : (a b : Bool) → (a || b) ≡ false → (a ≡ false) × (b ≡ false)
neither true b e = absurd cc
neither false b e = (refl, e)

-- ---- Places

module _ {A : Type 0} (P : A → Bool) where
  nothing : (xs : List A) → list_any P (take 0 xs) ≡ false
  nothing [] = refl
  nothing (x ∷ xs) = refl

  -- before the first place there is none
  pub none_yet : (xs : List A) → NoneBefore P 0 xs
  none_yet xs = (omega arith, nothing xs)

  whole : (xs : List A) → take (length xs) xs ≡ xs
  whole [] = refl
  whole (x ∷ xs) = ap (λ (rest : List A). x ∷ rest) (whole xs)

  long : (xs : List A) (n : ℕ) → length xs ≤ n → take n xs ≡ xs
  long [] zero h = refl
  long [] (suc n) h = refl
  long (x ∷ xs) zero h = absurd (omega (arith, h))
  long (x ∷ xs) (suc n) h = ap (λ (rest : List A). x ∷ rest) (long xs n (omega (arith, h)))

  next : (xs : List A) (i : ℕ) (d : A) → i < length xs → list_any P (take i xs) ≡ false → P (slice_index_or xs i d) ≡ false → list_any P (take (suc i) xs) ≡ false
  next [] i d l b t = absurd (omega (arith, l))
  next (x ∷ xs) zero d l b t = rw t (nothing xs)
  next (x ∷ xs) (suc i) d l b t =
      let parts = neither (P x) (list_any P (take i xs)) b in
      ap (λ c. c || list_any P (take (suc i) xs)) parts.0 ∙ next xs i d (omega (arith, l)) parts.1 t

  -- one more was looked at
  pub one_more : (xs : List A) (i : ℕ) (d : A) → i < length xs → list_any P (take i xs) ≡ false → P (slice_index_or xs i d) ≡ false → list_any P (take (i + 1) xs) ≡ false
  one_more xs i d l b t = ap (λ (k : ℕ). list_any P (take k xs)) (add-one i) ∙ next xs i d l b t

  place_is : (xs : List A) (i : ℕ) (d : A) → i < length xs → list_any P (take i xs) ≡ false → P (slice_index_or xs i d) ≡ true → position_or_len P xs ≡ i
  place_is [] i d l b t = absurd (omega (arith, l))
  place_is (x ∷ xs) zero d l b t = rw t refl
  place_is (x ∷ xs) (suc i) d l b t =
      let parts = neither (P x) (list_any P (take i xs)) b in
      let rest = place_is xs i d (omega (arith, l)) parts.1 t in
      rw parts.0 (omega (arith, rest))

  at_place : (n m i : ℕ) → n ≡ i → i < m → Some i ≡ cond (nat_lt n m) (Some n) None
  at_place n m i e l = grind (arith, nat_tests)

  -- the first one
  pub at_first : (xs : List A) (i : ℕ) (d : A) → i < length xs → list_any P (take i xs) ≡ false → P (slice_index_or xs i d) ≡ true → Some i ≡ position P xs
  at_first xs i d l b t = at_place (position_or_len P xs) (length xs) i (place_is xs i d l b t) l

  past_all : (xs : List A) → list_any P xs ≡ false → position_or_len P xs ≡ length xs
  past_all [] h = refl
  past_all (x ∷ xs) h =
      let parts = neither (P x) (list_any P xs) h in
      let rest = past_all xs parts.1 in
      rw parts.0 (omega (arith, rest))

  -- none at all
  pub nowhere : (xs : List A) (i : ℕ) → length xs ≤ i → list_any P (take i xs) ≡ false → None ≡ position P xs
  nowhere xs i l h = go (position_or_len P xs) (length xs) (past_all xs (ap (list_any P) (sym (long xs i l)) ∙ h))
    where
      go : (n m : ℕ) → n ≡ m → None ≡ cond {A = Option ℕ} (nat_lt n m) (Some n) None
      go n m e = grind (arith, nat_tests)

  all_fail : (xs : List A) (i : ℕ) (d : A) → i < length xs → ((k : ℕ) → k < i → P (slice_index_or xs k d) ≡ false) → list_any P (take i xs) ≡ false
  all_fail [] i d l h = absurd (omega (arith, l))
  all_fail (x ∷ xs) zero d l h = refl
  all_fail (x ∷ xs) (suc i) d l h =
      let first : P x ≡ false = h 0 (omega arith) in
      ap (λ c. c || list_any P (take i xs)) first ∙ all_fail xs i d (omega (arith, l)) (λ k m. h (suc k) (omega (arith, m)))

  -- before the first one
  pub before_first : (xs : List A) (i : ℕ) (d : A) → Some i ≡ position P xs → NoneBefore P i xs
  before_first xs i d h =
      let at = position-Some P xs i d (sym h) in
      let low = at.0 in
      (omega (arith, low), all_fail xs i d at.0 at.2)

  fails : (xs : List A) → find P xs ≡ None → list_any P xs ≡ false
  fails [] h = refl
  fails (x ∷ xs) h = go (P x) h (fails xs)
    where
      go : (b : Bool) → cond b (Some x) (find P xs) ≡ None → (find P xs ≡ None → list_any P xs ≡ false) → (b || list_any P xs) ≡ false
      go true h again = absurd cc
      go false h again = again h

  -- before the end
  pub before_end : (xs : List A) (n : ℕ) → n ≡ length xs → None ≡ position P xs → NoneBefore P n xs
  before_end xs n e h = (omega (arith, e), ap (λ (k : ℕ). list_any P (take k xs)) e ∙ ap (list_any P) (whole xs) ∙ fails xs (not_found P xs (sym h)))

  -- ---- One more, and one fewer

  same_before : (xs ys : List A) (n : ℕ) → n ≤ length xs → take n (xs ++ ys) ≡ take n xs
  same_before [] [] zero h = refl
  same_before [] (y ∷ ys) zero h = refl
  same_before [] ys (suc n) h = absurd (omega (arith, h))
  same_before (x ∷ xs) ys zero h = refl
  same_before (x ∷ xs) ys (suc n) h = ap (λ (rest : List A). x ∷ rest) (same_before xs ys n (omega (arith, h)))

  long_more : (xs ys : List A) → length xs ≤ length (xs ++ ys)
  long_more [] ys = omega arith
  long_more (x ∷ xs) ys = omega (arith, long_more xs ys)

  -- one more comes after them
  pub more_before : (xs ys : List A) (n : ℕ) → NoneBefore P n xs → NoneBefore P n (xs ++ ys)
  more_before xs ys n h = let few = h.0 in let more = long_more xs ys in (omega (arith, few, more), ap (list_any P) (same_before xs ys n few) ∙ h.1)

  any_less : (xs : List A) (i n r : ℕ) → i < length xs → (i < n → r + 1 ≡ n) → (n ≤ i → r ≡ n) → list_any P (take n xs) ≡ false → list_any P (take r (remove xs i)) ≡ false
  any_less [] i n r l a b h = absurd (omega (arith, l))
  any_less (x ∷ xs) zero zero r l a b h = let is : r ≡ 0 = b (omega arith) in ap (λ (k : ℕ). list_any P (take k xs)) is ∙ nothing xs
  any_less (x ∷ xs) zero (suc n) r l a b h =
      let sum : r + 1 ≡ suc n = a (omega arith) in
      let is : r ≡ n = omega (arith, sum) in
      ap (λ (k : ℕ). list_any P (take k xs)) is ∙ (neither (P x) (list_any P (take n xs)) h).1
  any_less (x ∷ xs) (suc i) zero r l a b h = let is : r ≡ 0 = b (omega arith) in ap (λ (k : ℕ). list_any P (take k (x ∷ remove xs i))) is
  any_less (x ∷ xs) (suc i) (suc n) zero l a b h = refl
  any_less (x ∷ xs) (suc i) (suc n) (suc r) l a b h =
      let parts = neither (P x) (list_any P (take n xs)) h in
      ap (λ c. c || list_any P (take r (remove xs i))) parts.0
      ∙ any_less xs i n r (omega (arith, l)) (λ m. let k = a (omega (arith, m)) in omega (arith, k)) (λ m. let k = b (omega (arith, m)) in omega (arith, k)) parts.1

  long_less : (xs : List A) (i : ℕ) → i < length xs → length (remove xs i) + 1 ≡ length xs
  long_less [] i l = absurd (omega (arith, l))
  long_less (x ∷ xs) zero l = omega arith
  long_less (x ∷ xs) (suc i) l = let rest = long_less xs i (omega (arith, l)) in omega (arith, rest)

  low_less : (i n r m k : ℕ) → i < m → k + 1 ≡ m → n ≤ m → (i < n → r + 1 ≡ n) → (n ≤ i → r ≡ n) → r ≤ k
  low_less i n r m k l e h a b = go (nat_lt i n) refl
    where
      below : nat_lt i n ≡ true → i < n
      below q = grind (arith, nat_tests)

      above : nat_lt i n ≡ false → n ≤ i
      above q = grind (arith, nat_tests)

      go : (c : Bool) → nat_lt i n ≡ c → r ≤ k
      go true q = let sum = a (below q) in omega (arith, sum, e, h)
      go false q = let is = b (above q) in let low = above q in omega (arith, is, low, l, e)

  -- one is taken out
  pub less_before : (xs ys : List A) (i n r : ℕ) → i < length xs → (i < n → r + 1 ≡ n) → (n ≤ i → r ≡ n) → ys ≡ remove xs i → NoneBefore P n xs → NoneBefore P r ys
  less_before xs ys i n r l a b e h = subst (NoneBefore P r) (sym e) (low_less i n r (length xs) (length (remove xs i)) l (long_less xs i l) h.0 a b, any_less xs i n r l a b h.1)

module _ {A : Type 0} (P Q : A → Bool) (k : (x : A) → P x ≡ false → Q x ≡ false) where
  any_still : (xs : List A) → list_any P xs ≡ false → list_any Q xs ≡ false
  any_still [] h = refl
  any_still (x ∷ xs) h =
      let parts = neither (P x) (list_any P xs) h in
      ap (λ c. c || list_any Q xs) (k x parts.0) ∙ any_still xs parts.1

  -- no more of them pass
  pub still_before : (xs : List A) (n : ℕ) → NoneBefore P n xs → NoneBefore Q n xs
  still_before xs n h = (h.0, any_still (take n xs) h.1)

-- ---- What is kept

fewer : (a b : Bool) → (a ≡ true → b ≡ true) → not a ≡ false → not b ≡ false
fewer true b h e = let yes = h refl in ap not yes
fewer false b h e = absurd cc

module _ (P : SubContextView → Bool) (f : SubContextView → SubContextView) (same : (x : SubContextView) → (f x).ctx ≡ x.ctx) (less : (x : SubContextView) → is_nil x.kept ≡ true → is_nil (f x).kept ≡ true) where
  pub less_kept : (xs : List SubContextView) (c : ℕ) → keeps_at xs c ≡ false → keeps_at (with_found P f xs) c ≡ false
  less_kept [] c h = h
  less_kept (x ∷ xs) c h = go (P x) (less_kept xs c)
    where
      here : (b : Bool) → is_kept (cond b (Some x) (find (is_of_context c) xs)) ≡ false → is_kept (cond b (Some (f x)) (find (is_of_context c) xs)) ≡ false
      here true q = fewer (is_nil x.kept) (is_nil (f x).kept) (less x) q
      here false q = q

      there : (b : Bool) → is_kept (cond b (Some x) (find (is_of_context c) xs)) ≡ false → (keeps_at xs c ≡ false → keeps_at (with_found P f xs) c ≡ false) → is_kept (cond b (Some x) (find (is_of_context c) (with_found P f xs))) ≡ false
      there true q again = q
      there false q again = again q

      go : (a : Bool) → (keeps_at xs c ≡ false → keeps_at (with_found P f xs) c ≡ false) → keeps_at (cond a (f x ∷ xs) (x ∷ with_found P f xs)) c ≡ false
      go true again = ap (λ (n : ℕ). is_kept (cond (n == c) (Some (f x)) (find (is_of_context c) xs))) (same x) ∙ here (x.ctx == c) h
      go false again = there (x.ctx == c) h again

-- one fewer
pub given_kept : (P : SubContextView → Bool) (xs : List SubContextView) (c : ℕ) → keeps_at xs c ≡ false → keeps_at (with_found P given_from xs) c ≡ false
given_kept P = less_kept P given_from (λ x. refl) (λ x. none x.kept)
  where
    none : (ms : List MessageView) → is_nil ms ≡ true → is_nil (drop 1 ms) ≡ true
    none [] h = refl
    none (m ∷ ms) h = absurd cc

-- a topic is switched
pub switched_kept : (on : Bool) (t : List ℕ) (P : SubContextView → Bool) (xs : List SubContextView) (c : ℕ) → keeps_at xs c ≡ false → keeps_at (with_found P (switched on t) xs) c ≡ false
switched_kept on t P = less_kept P (switched on t) (same on) (less on)
  where
    same : (on : Bool) (x : SubContextView) → (switched on t x).ctx ≡ x.ctx
    same true x = refl
    same false x = refl

    none : (Q : MessageView → Bool) (ms : List MessageView) → is_nil ms ≡ true → is_nil (filter Q ms) ≡ true
    none Q [] h = refl
    none Q (m ∷ ms) h = absurd cc

    less : (on : Bool) (x : SubContextView) → is_nil x.kept ≡ true → is_nil (switched on t x).kept ≡ true
    less true x h = h
    less false x h = none _ x.kept h

pub emptied_kept : (xs : List SubContextView) (c : ℕ) → keeps_at (map emptied xs) c ≡ false
emptied_kept [] c = refl
emptied_kept (x ∷ xs) c = go (x.ctx == c) (emptied_kept xs c)
  where
    go : (b : Bool) → is_kept (find (is_of_context c) (map emptied xs)) ≡ false → is_kept (cond b (Some (emptied x)) (find (is_of_context c) (map emptied xs))) ≡ false
    go true h = refl
    go false h = h

-- a context is opened
pub opened_kept : (places n : ℕ) (xs : List SubContextView) (c : ℕ) → keeps_at xs c ≡ false → keeps_at (xs ++ fresh_context places n ∷ []) c ≡ false
opened_kept places n [] c h = go (n == c)
  where
    go : (b : Bool) → is_kept (cond b (Some (fresh_context places n)) None) ≡ false
    go true = refl
    go false = refl
opened_kept places n (x ∷ xs) c h = go (x.ctx == c) h (opened_kept places n xs c)
  where
    go : (b : Bool) → is_kept (cond b (Some x) (find (is_of_context c) xs)) ≡ false → (keeps_at xs c ≡ false → keeps_at (xs ++ fresh_context places n ∷ []) c ≡ false) → is_kept (cond b (Some x) (find (is_of_context c) (xs ++ fresh_context places n ∷ []))) ≡ false
    go true q again = q
    go false q again = again q

equal : (m n : ℕ) → (m == n) ≡ true → m ≡ n
equal m n e = grind (arith, nat_tests)

abbrev others : ℕ → List SubContextView → List SubContextView
others n xs = filter (λ (x : SubContextView). not (x.ctx == n)) xs

gone : (c : ℕ) (xs : List SubContextView) → keeps_at (others c xs) c ≡ false
gone c [] = refl
gone c (x ∷ xs) = go (x.ctx == c) refl (gone c xs)
  where
    go : (b : Bool) → (x.ctx == c) ≡ b → keeps_at (others c xs) c ≡ false → keeps_at (cond (not b) (x ∷ others c xs) (others c xs)) c ≡ false
    go true e again = again
    go false e again = ap (λ b. is_kept (cond b (Some x) (find (is_of_context c) (others c xs)))) e ∙ again

-- a context is shut
pub shut_kept : (n : ℕ) (xs : List SubContextView) (c : ℕ) → keeps_at xs c ≡ false → keeps_at (filter (λ (x : SubContextView). not (x.ctx == n)) xs) c ≡ false
shut_kept n [] c h = h
shut_kept n (x ∷ xs) c h = go (x.ctx == n) refl (x.ctx == c) refl h (shut_kept n xs c)
  where
    go : (a : Bool) → (x.ctx == n) ≡ a → (b : Bool) → (x.ctx == c) ≡ b → is_kept (cond b (Some x) (find (is_of_context c) xs)) ≡ false → (keeps_at xs c ≡ false → keeps_at (others n xs) c ≡ false)
        → keeps_at (cond (not a) (x ∷ others n xs) (others n xs)) c ≡ false
    go true e true f q again = let is : n ≡ c = sym (equal x.ctx n e) ∙ equal x.ctx c f in subst (λ (k : ℕ). keeps_at (others k xs) c ≡ false) (sym is) (gone c xs)
    go true e false f q again = again q
    go false e true f q again = ap (λ b. is_kept (cond b (Some x) (find (is_of_context c) (others n xs)))) f ∙ q
    go false e false f q again = ap (λ b. is_kept (cond b (Some x) (find (is_of_context c) (others n xs)))) f ∙ again q

-- ---- Of a sub

-- nothing more is kept
pub looks_on : (m n : Subscribe) → NoneBefore (is_ready m.contexts.items) m.looked m.waiting.items → n.waiting ≡ m.waiting → n.looked ≡ m.looked → ((c : ℕ) → keeps_at m.contexts.items c ≡ false → keeps_at n.contexts.items c ≡ false) → NoneBefore (is_ready n.contexts.items) n.looked n.waiting.items
looks_on m n h w e k = rw (w, e) (still_before (is_ready m.contexts.items) (is_ready n.contexts.items) (λ (x : WaitingReceive). k x.ctx) m.waiting.items m.looked h)

-- all are to be looked at again
pub looks_anew : (n : Subscribe) → n.looked ≡ 0 → NoneBefore (is_ready n.contexts.items) n.looked n.waiting.items
looks_anew n e = rw e (none_yet (is_ready n.contexts.items) n.waiting.items)
