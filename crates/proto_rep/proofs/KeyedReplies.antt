-- Replies by their keys and numbers, as pairs in an ordered set.
use Rattle.std.proofs.Common.{◌≡◌, refl, ap, sym, ◌∙◌, subst, List, [], ◌∷◌, ◌++◌, ℕ, ◌+◌, ◌≤◌, ◌<◌, Bool, true, false, cond, arith, map, filter, Ordering, Less, Equal, Greater, Option, Some, None, length, take, slice_index_or}
use Rattle.std.specs.Prelude.{nat_lt, not, find, IfSome, ◌&&◌, ◌||◌, ◌==◌}
use Rattle.std.specs.Bool.{beq}
use Rattle.std.specs.List.{list_any, position}
use Rattle.std.specs.Ordering.{is_eq, is_gt, nat_cmp, ordering_then}
use Rattle.std.specs.BTreeSet.{BTreeSet, IsKeyRangeOf}
use Rattle.std.specs.declared.ops.Bound.TheVariants.{Included, Unbounded}
use Rattle.std.proofs.lemmas.Bool.Decides.{nat_tests}
use Rattle.std.proofs.lemmas.List.{take_more}
use Rattle.sp_history.specs.Lists.{has}
use Rattle.sp_history.specs.Once.{AreDistinct}
use Rattle.sp_proto.specs.declared.Offer.{Offer}
use Rattle.proto_requests.specs.FirstFound.{without_found}
use Rattle.proto_requests.specs.Ports.{PortView}
use Rattle.proto_requests.proofs.NumberedEntries.{at_is}
use Rattle.proto_requests.specs.Spots.{any_in, holds, held, with_value}
use Rattle.proto_requests.specs.declared.spots.Spot.{Spot}
use Rattle.proto_requests.proofs.KnownOperations.{at_spot}
use Rattle.proto_requests.proofs.Spotted.{found_there, held_more, none_find}
use Rattle.proto_requests.proofs.TestValues.{both_false, equal_of, same_number, some_inj}
use Rattle.proto_rep.specs.declared.replies.WaitingReply.{WaitingReply}
use Rattle.proto_rep.specs.Replies.{AreFull, AreKeyed, AreRising, IsFirst, IsFullKey, IsLeast, can_leave, has_key, is_below, is_leaving, leaves_to, reply_key, reply_offer, target_of, OffersFirst, OffersIts}
use Rattle.proto_rep.proofs.PassedReplies.{any_kept}

-- pairs compare number by number
abbrev pub pair_cmp : ℕ × ℕ → ℕ × ℕ → Ordering
pair_cmp x y = ordering_then (nat_cmp x.0 y.0) (nat_cmp x.1 y.1)

abbrev pub has_pair : ℕ × ℕ → List (ℕ × ℕ) → Bool
has_pair q ks = list_any (λ k. is_eq (pair_cmp q k)) ks

-- ---- Pairs of a set

both_eq : (a b : Ordering) → is_eq (ordering_then a b) ≡ (is_eq a && is_eq b)
both_eq Less b = refl
both_eq Equal b = refl
both_eq Greater b = refl

pair_eq : (a b c d : ℕ) → is_eq (pair_cmp (a, b) (c, d)) ≡ ((c == a) && (d == b))
pair_eq a b c d = both_eq (nat_cmp a c) (nat_cmp b d) ∙ ap (λ x. x && is_eq (nat_cmp b d)) (at_is a c) ∙ ap (λ x. (c == a) && x) (at_is b d)

pub pair_is : (k n : ℕ) (ks : List (ℕ × ℕ)) → has_pair (k, n) ks ≡ has_key k n ks
pair_is k n [] = refl
pair_is k n (x ∷ ks) = ap (λ b. b || has_pair (k, n) ks) (pair_eq k n x.0 x.1) ∙ ap (λ b. ((x.0 == k) && (x.1 == n)) || b) (pair_is k n ks)

pub pair_in : (k n : ℕ) (new : List (ℕ × ℕ)) → has_pair (k, n) new ≡ true → has_key k n new ≡ true
pair_in k n new h = sym (pair_is k n new) ∙ h

pub pairs_more : (p : ℕ × ℕ) (old new : List (ℕ × ℕ)) → ((q : ℕ × ℕ) → has_pair q new ≡ cond (is_eq (pair_cmp p q)) true (has_pair q old)) → (k m : ℕ) → has_key k m old ≡ true → has_key k m new ≡ true
pairs_more p old new u k m h = sym (pair_is k m new) ∙ u (k, m) ∙ ap (λ b. cond (is_eq (pair_cmp p (k, m))) true b) (pair_is k m old ∙ h) ∙ same (is_eq (pair_cmp p (k, m)))
  where
    same : (b : Bool) → cond b true true ≡ true
    same true = refl
    same false = refl

pub pairs_less : (p : ℕ × ℕ) (old new : List (ℕ × ℕ)) → ((q : ℕ × ℕ) → has_pair q new ≡ cond (is_eq (pair_cmp p q)) false (has_pair q old)) → (k m : ℕ) → (m ≡ p.1 → ⊥) → has_key k m old ≡ true → has_key k m new ≡ true
pairs_less p old new u k m d h = sym (pair_is k m new) ∙ u (k, m) ∙ ap (λ b. cond b false (has_pair (k, m) old)) (pair_eq p.0 p.1 k m ∙ apart (k == p.0) (m == p.1) refl) ∙ pair_is k m old ∙ h
  where
    apart : (a b : Bool) → (m == p.1) ≡ b → (a && b) ≡ false
    apart true true e = absurd (d (equal_of m p.1 e))
    apart true false e = refl
    apart false b e = refl

-- ---- The first from a key on

ge_first : (a b : Ordering) → is_gt (ordering_then a b) ≡ false → is_gt a ≡ false
ge_first Less b h = refl
ge_first Equal b h = refl
ge_first Greater b h = absurd cc

le_cmp : (m n : ℕ) → is_gt (nat_cmp m n) ≡ false → m ≤ n
le_cmp m n h = go (nat_lt m n) refl (m == n) refl h
  where
    less : nat_lt m n ≡ true → m ≤ n
    less e = grind (arith, nat_tests)

    same : (m == n) ≡ true → m ≤ n
    same e = grind (arith, nat_tests)

    go : (a : Bool) → nat_lt m n ≡ a → (b : Bool) → (m == n) ≡ b → is_gt (cond a Less (cond b Equal Greater)) ≡ false → m ≤ n
    go true e b f k = less e
    go false e true f k = same f
    go false e false f k = absurd cc

not_after : (m n : ℕ) → m ≤ n → is_gt (nat_cmp m n) ≡ false
not_after m n l = go (nat_lt m n) refl (m == n) refl
  where
    never : nat_lt m n ≡ false → (m == n) ≡ false → ⊥
    never e f = grind (arith, nat_tests)

    go : (a : Bool) → nat_lt m n ≡ a → (b : Bool) → (m == n) ≡ b → is_gt (cond a Less (cond b Equal Greater)) ≡ false
    go true e b f = refl
    go false e true f = refl
    go false e false f = absurd (never e f)

rest_gt : (a b : Ordering) → is_gt a ≡ false → is_gt b ≡ false → is_gt (ordering_then a b) ≡ false
rest_gt Less b h k = refl
rest_gt Equal b h k = k
rest_gt Greater b h k = h

-- nothing from the key on is before the start of its range
from_key : (from k n : ℕ) → from ≤ k → is_gt (pair_cmp (from, 0) (k, n)) ≡ false
from_key from k n l = rest_gt (nat_cmp from k) (nat_cmp 0 n) (not_after from k l) (not_after 0 n (omega arith))

-- what isn't before it has no lower number for the same key
pair_first : (x : ℕ × ℕ) (k n : ℕ) → is_gt (pair_cmp x (k, n)) ≡ false → (x.0 ≤ k) × (x.0 ≡ k → x.1 ≤ n)
pair_first x k n h = (le_cmp x.0 k (ge_first (nat_cmp x.0 k) (nat_cmp x.1 n) h), λ e. le_cmp x.1 n (second (nat_cmp x.0 k) (nat_cmp x.1 n) (at e) h))
  where
    at : x.0 ≡ k → is_eq (nat_cmp x.0 k) ≡ true
    at e = at_is x.0 k ∙ ap (λ m. k == m) e ∙ same_number k

    second : (a b : Ordering) → is_eq a ≡ true → is_gt (ordering_then a b) ≡ false → is_gt b ≡ false
    second Less b e h = absurd cc
    second Equal b e h = h
    second Greater b e h = absurd cc

pub first_in : (from : ℕ) (s : BTreeSet (ℕ × ℕ)) (r t : List (ℕ × ℕ)) (x : ℕ × ℕ) → r ≡ x ∷ t → IsKeyRangeOf pair_cmp (Included (from, 0)) Unbounded s r → IsLeast from s.keys (Some x)
first_in from s r t x e h =
    let g = subst (IsKeyRangeOf pair_cmp (Included (from, 0)) Unbounded s) e h in
    (le_cmp from x.0 (ge_first (nat_cmp from x.0) (nat_cmp 0 x.1) g.1.0.0), λ k n l i. pair_first x k n (g.2 (k, n) (from_key from k n l, tt) (pair_is k n s.keys ∙ i)))

pub none_in : (from : ℕ) (s : BTreeSet (ℕ × ℕ)) (r : List (ℕ × ℕ)) → r ≡ [] → IsKeyRangeOf pair_cmp (Included (from, 0)) Unbounded s r → IsLeast from s.keys None
none_in from s r e h k n l = sym (pair_is k n s.keys) ∙ h.5 e (k, n) (from_key from k n l, tt)

-- one more key belongs to a full pipe
pub full_more : (xs : List PortView) (from below next : ℕ) (ks : List (ℕ × ℕ)) (x : ℕ × ℕ) → AreFull xs from below ks → IsLeast below ks (Some x) → next ≡ x.0 + 1 → ((k : ℕ) → k ≡ x.0 → IsFullKey xs k) → AreFull xs from next ks
full_more xs from below next ks x f l e full k n a b i = go (nat_lt k below) refl
  where
    under : nat_lt k below ≡ true → k < below
    under q = grind (arith, nat_tests)

    over : nat_lt k below ≡ false → below ≤ k
    over q = grind (arith, nat_tests)

    same : x.0 ≤ k → k ≡ x.0
    same m = omega (arith, m, b, e)

    go : (c : Bool) → nat_lt k below ≡ c → IsFullKey xs k
    go true q = f k n a (under q) i
    go false q = full k (same ((l.1 k n (over q) i).0))

-- ---- Numbers that rise

rising_from : (from to next : ℕ) (ws : List WaitingReply) → from ≤ to → AreRising to next ws → AreRising from next ws
rising_from from to next [] l h = tt
rising_from from to next (w ∷ ws) l h = let a = h.0 in (omega (arith, l, a), h.1, h.2)

pub rising_more : (from next n : ℕ) (ws : List WaitingReply) (x : WaitingReply) → from ≤ next → x.number ≡ next → n ≡ next + 1 → AreRising from next ws → AreRising from n (ws ++ x ∷ [])
rising_more from next n [] x l e f h = (omega (arith, l, e), omega (arith, e, f), tt)
rising_more from next n (w ∷ ws) x l e f h = let b = h.1 in (h.0, omega (arith, b, f), rising_more (w.number + 1) next n ws x (omega (arith, b)) e f h.2)

pub rising_less : (P : WaitingReply → Bool) (from next : ℕ) (ws : List WaitingReply) → AreRising from next ws → AreRising from next (without_found P ws)
rising_less P from next [] h = tt
rising_less P from next (w ∷ ws) h = go (P w) (rising_less P (w.number + 1) next ws h.2)
  where
    go : (b : Bool) → AreRising (w.number + 1) next (without_found P ws) → AreRising from next (cond b ws (w ∷ without_found P ws))
    go true again = let a = h.0 in rising_from from (w.number + 1) next ws (omega (arith, a)) h.2
    go false again = (h.0, h.1, again)

pub numbers_apart : (from next : ℕ) (ws : List WaitingReply) → AreRising from next ws → AreDistinct (map (λ (w : WaitingReply). w.number) ws)
numbers_apart from next [] h = tt
numbers_apart from next (w ∷ ws) h = (none w.number (w.number + 1) ws (omega arith) h.2, numbers_apart (w.number + 1) next ws h.2)
  where
    none : (m from : ℕ) (ws : List WaitingReply) → m < from → AreRising from next ws → has (map (λ (w : WaitingReply). w.number) ws) m ≡ false
    none m from [] l h = refl
    none m from (v ∷ ws) l h = let a = h.0 in ap (λ b. b || has (map (λ (w : WaitingReply). w.number) ws) m) (differ v.number a) ∙ none m (v.number + 1) ws (omega (arith, l, a)) h.2
      where
        differ : (k : ℕ) → from ≤ k → (k == m) ≡ false
        differ k a = grind (arith, nat_tests)

found_rising : (P : WaitingReply → Bool) (from next : ℕ) (ws : List WaitingReply) (x : WaitingReply) → AreRising from next ws → find P ws ≡ Some x → from ≤ x.number
found_rising P from next [] x h f = absurd cc
found_rising P from next (w ∷ ws) x h f = go (P w) f (found_rising P (w.number + 1) next ws x h.2)
  where
    go : (b : Bool) → cond b (Some w) (find P ws) ≡ Some x → (find P ws ≡ Some x → w.number + 1 ≤ x.number) → from ≤ x.number
    go true f again = subst (λ (v : WaitingReply). from ≤ v.number) (some_inj w x f) h.0
    go false f again = let l = again f in let a = h.0 in omega (arith, l, a)

found_is : {A : Type 0} (P : A → Bool) (xs : List A) (x : A) → find P xs ≡ Some x → P x ≡ true
found_is P [] x f = absurd cc
found_is P (y ∷ xs) x f = go (P y) refl f (found_is P xs x)
  where
    go : (b : Bool) → P y ≡ b → cond b (Some y) (find P xs) ≡ Some x → (find P xs ≡ Some x → P x ≡ true) → P x ≡ true
    go true e f again = ap P (sym (some_inj y x f)) ∙ e
    go false e f again = again f

-- ---- Those that are in the index

pub keyed_more : (raw : Bool) (old new : List (ℕ × ℕ)) (ws : List WaitingReply) → ((k m : ℕ) → has_key k m old ≡ true → has_key k m new ≡ true) → AreKeyed raw old ws → AreKeyed raw new ws
keyed_more raw old new [] u h = tt
keyed_more raw old new (w ∷ ws) u h = (u (reply_key raw w) w.number h.0, keyed_more raw old new ws u h.1)

pub keyed_both : (raw : Bool) (ks : List (ℕ × ℕ)) (ws ys : List WaitingReply) → AreKeyed raw ks ws → AreKeyed raw ks ys → AreKeyed raw ks (ws ++ ys)
keyed_both raw ks [] ys h k = k
keyed_both raw ks (w ∷ ws) ys h k = (h.0, keyed_both raw ks ws ys h.1 k)

others_keyed : (raw : Bool) (old new : List (ℕ × ℕ)) (n from next : ℕ) (ws : List WaitingReply) → ((k m : ℕ) → (m ≡ n → ⊥) → has_key k m old ≡ true → has_key k m new ≡ true) → n < from → AreRising from next ws → AreKeyed raw old ws → AreKeyed raw new ws
others_keyed raw old new n from next [] u l r h = tt
others_keyed raw old new n from next (w ∷ ws) u l r h = let a = r.0 in (u (reply_key raw w) w.number (λ e. omega (arith, a, l, e)) h.0, others_keyed raw old new n (w.number + 1) next ws u (omega (arith, a, l)) r.2 h.1)

pub keyed_less : (raw : Bool) (P : WaitingReply → Bool) (old new : List (ℕ × ℕ)) (from next : ℕ) (ws : List WaitingReply) (x : WaitingReply) → find P ws ≡ Some x → ((k m : ℕ) → (m ≡ x.number → ⊥) → has_key k m old ≡ true → has_key k m new ≡ true)
    → AreRising from next ws → AreKeyed raw old ws → AreKeyed raw new (without_found P ws)
keyed_less raw P old new from next [] x f u r h = tt
keyed_less raw P old new from next (w ∷ ws) x f u r h = go (P w) f (λ e. keyed_less raw P old new (w.number + 1) next ws x e u r.2 h.1)
  where
    go : (b : Bool) → cond b (Some w) (find P ws) ≡ Some x → (find P ws ≡ Some x → AreKeyed raw new (without_found P ws)) → AreKeyed raw new (cond b ws (w ∷ without_found P ws))
    go true f again = let is : x.number ≡ w.number = ap (λ (v : WaitingReply). v.number) (sym (some_inj w x f)) in others_keyed raw old new x.number (w.number + 1) next ws u (omega (arith, is)) r.2 h.1
    go false f again = let l = found_rising P (w.number + 1) next ws x r.2 f in (u (reply_key raw w) w.number (λ e. omega (arith, l, e)) h.0, again f)

-- ---- What the index shows

module _ (raw : Bool) (xs : List PortView) where
  -- those that are then passed over can't leave either
  pub full_passed : (from to : ℕ) (ks : List (ℕ × ℕ)) (ws : List WaitingReply) → AreFull xs from to ks → AreKeyed raw ks ws → list_any (can_leave raw xs) (filter (is_below raw from) ws) ≡ false → list_any (can_leave raw xs) (filter (is_below raw to) ws) ≡ false
  full_passed from to ks ws f h s = any_kept (can_leave raw xs) (is_below raw to) ws ∙ go ws h (sym (any_kept (can_leave raw xs) (is_below raw from) ws) ∙ s)
    where
      under : (k m : ℕ) → nat_lt k m ≡ true → k < m
      under k m q = grind (arith, nat_tests)

      over : (k m : ℕ) → nat_lt k m ≡ false → m ≤ k
      over k m q = grind (arith, nat_tests)

      here : (w : WaitingReply) → has_key (reply_key raw w) w.number ks ≡ true → (a b : Bool) → nat_lt (reply_key raw w) from ≡ a → nat_lt (reply_key raw w) to ≡ b → (a && can_leave raw xs w) ≡ false → (b && can_leave raw xs w) ≡ false
      here w i a false p q s = refl
      here w i true true p q s = s
      here w i false true p q s = f (reply_key raw w) w.number (over (reply_key raw w) from p) (under (reply_key raw w) to q) i (target_of raw w.answer) refl

      go : (ws : List WaitingReply) → AreKeyed raw ks ws → list_any (λ w. is_below raw from w && can_leave raw xs w) ws ≡ false → list_any (λ w. is_below raw to w && can_leave raw xs w) ws ≡ false
      go [] h s = refl
      go (w ∷ ws) h s =
          let b = both_false (is_below raw from w && can_leave raw xs w) (list_any (λ v. is_below raw from v && can_leave raw xs v) ws) s in
          ap (λ c. c || list_any (λ v. is_below raw to v && can_leave raw xs v) ws) (here w h.0 (is_below raw from w) (is_below raw to w) refl refl b.0) ∙ go ws h.1 b.1

  -- no key is from the mark on
  pub none_leaves : (below : ℕ) (ks : List (ℕ × ℕ)) (ws : List WaitingReply) → IsLeast below ks None → AreKeyed raw ks ws → list_any (can_leave raw xs) (filter (is_below raw below) ws) ≡ false → IsFirst raw xs ws None
  none_leaves below ks ws l h s = none_find (can_leave raw xs) ws (go ws h (sym (any_kept (can_leave raw xs) (is_below raw below) ws) ∙ s))
    where
      over : (k : ℕ) → nat_lt k below ≡ false → below ≤ k
      over k q = grind (arith, nat_tests)

      here : (w : WaitingReply) → has_key (reply_key raw w) w.number ks ≡ true → (a : Bool) → nat_lt (reply_key raw w) below ≡ a → (a && can_leave raw xs w) ≡ false → can_leave raw xs w ≡ false
      here w i true q s = s
      here w i false q s = let bad : true ≡ false = sym i ∙ l (reply_key raw w) w.number (over (reply_key raw w) q) in absurd cc

      go : (ws : List WaitingReply) → AreKeyed raw ks ws → list_any (λ w. is_below raw below w && can_leave raw xs w) ws ≡ false → list_any (can_leave raw xs) ws ≡ false
      go [] h s = refl
      go (w ∷ ws) h s =
          let b = both_false (is_below raw below w && can_leave raw xs w) (list_any (λ v. is_below raw below v && can_leave raw xs v) ws) s in
          ap (λ c. c || list_any (can_leave raw xs) ws) (here w h.0 (is_below raw below w) refl b.0) ∙ go ws h.1 b.1

  -- the first key from the mark on belongs to the first reply to its pipe
  pub first_leaves : (below next : ℕ) (ks : List (ℕ × ℕ)) (x : ℕ × ℕ) (ws : List WaitingReply) (w : WaitingReply) → IsLeast below ks (Some x) → AreKeyed raw ks ws → AreRising 0 next ws → find (is_leaving raw xs x.0 x.1) ws ≡ Some w → find (leaves_to raw xs x.0) ws ≡ Some w
  first_leaves below next ks x ws w l h r f = go 0 ws h r f
    where
      left : (a b : Bool) → (a && b) ≡ true → a ≡ true
      left true b n = refl
      left false b n = absurd cc

      it : w.number ≡ x.1
      it = equal_of w.number x.1 (left (w.number == x.1) (leaves_to raw xs x.0 w) (found_is (is_leaving raw xs x.0 x.1) ws w f))

      later : (v : WaitingReply) → has_key (reply_key raw v) v.number ks ≡ true → leaves_to raw xs x.0 v ≡ true → x.1 ≤ v.number
      later v i t =
          let same : reply_key raw v ≡ x.0 = equal_of (reply_key raw v) x.0 (left (reply_key raw v == x.0) (can_leave raw xs v) t) in
          (l.1 x.0 v.number l.0 (ap (λ k. has_key k v.number ks) (sym same) ∙ i)).1 refl

      go : (from : ℕ) (vs : List WaitingReply) → AreKeyed raw ks vs → AreRising from next vs → find (is_leaving raw xs x.0 x.1) vs ≡ Some w → find (leaves_to raw xs x.0) vs ≡ Some w
      go from [] h r f = absurd cc
      go from (v ∷ vs) h r f = step (leaves_to raw xs x.0 v) refl (v.number == x.1) refl f (go (v.number + 1) vs h.1 r.2)
        where
          step : (a : Bool) → leaves_to raw xs x.0 v ≡ a → (b : Bool) → (v.number == x.1) ≡ b → cond (b && a) (Some v) (find (is_leaving raw xs x.0 x.1) vs) ≡ Some w
              → (find (is_leaving raw xs x.0 x.1) vs ≡ Some w → find (leaves_to raw xs x.0) vs ≡ Some w) → cond a (Some v) (find (leaves_to raw xs x.0) vs) ≡ Some w
          step true t true e f again = f
          step true t false e f again =
              let after = found_rising (is_leaving raw xs x.0 x.1) (v.number + 1) next vs w r.2 f in
              let before = later v h.0 t in
              let number = it in absurd (omega (arith, after, before, number))
          step false t true e f again = again f
          step false t false e f again = again f

  -- the first of all that can leave is the first of those to its pipe
  pub searched : (ws : List WaitingReply) (o : Option WaitingReply) → find (can_leave raw xs) ws ≡ o → IsFirst raw xs ws o
  searched ws None f = f
  searched ws (Some w) f = (reply_key raw w, go ws f)
    where
      none : (b : Bool) → (b && false) ≡ false
      none true = refl
      none false = refl

      go : (vs : List WaitingReply) → find (can_leave raw xs) vs ≡ Some w → find (leaves_to raw xs (reply_key raw w)) vs ≡ Some w
      go [] f = absurd cc
      go (v ∷ vs) f = step (can_leave raw xs v) refl f (go vs)
        where
          step : (b : Bool) → can_leave raw xs v ≡ b → cond b (Some v) (find (can_leave raw xs) vs) ≡ Some w → (find (can_leave raw xs) vs ≡ Some w → find (leaves_to raw xs (reply_key raw w)) vs ≡ Some w) → cond ((reply_key raw v == reply_key raw w) && can_leave raw xs v) (Some v) (find (leaves_to raw xs (reply_key raw w)) vs) ≡ Some w
          step true e f again =
              let is : v ≡ w = some_inj v w f in
              ap (λ b. cond ((reply_key raw v == reply_key raw w) && b) (Some v) (find (leaves_to raw xs (reply_key raw w)) vs)) e
              ∙ ap (λ b. cond (b && true) (Some v) (find (leaves_to raw xs (reply_key raw w)) vs)) (ap (λ (u : WaitingReply). reply_key raw u == reply_key raw w) is ∙ same_number (reply_key raw w)) ∙ f
          step false e f again =
              ap (λ b. cond ((reply_key raw v == reply_key raw w) && b) (Some v) (find (leaves_to raw xs (reply_key raw w)) vs)) e ∙ ap (λ b. cond b (Some v) (find (leaves_to raw xs (reply_key raw w)) vs)) (none (reply_key raw v == reply_key raw w)) ∙ again f

-- ---- Spots

some_there : {A : Type 0} (P : A → Bool) (v : Option A) → any_in P v ≡ true → (w : A) × (v ≡ Some w)
some_there P None h = absurd cc
some_there P (Some w) h = (w, refl)

-- the one of this number that is there is the first
pub its_offer : (raw : Bool) (xs : List PortView) (k n next i : ℕ) (ss : List (Spot WaitingReply)) (d : Spot WaitingReply) (x : Offer) → AreRising 0 next (held ss) → i < length ss → d ≡ slice_index_or ss i d → holds (is_leaving raw xs k n) d ≡ true
    → ((P : WaitingReply → Bool) → Some i ≡ position (holds P) ss → x ≡ reply_offer raw xs (find P (held ss))) → OffersIts raw xs k n (held ss) x
its_offer raw xs k n next i ss d x r l e t o =
    let w = some_there P d.value t in
    let found : find P (held ss) ≡ Some w.0 = found_there P ss i d (sym at) ∙ ap (λ (s : Spot WaitingReply). s.value) (sym e) ∙ w.1 in
    (w.0, found, o P at ∙ ap (reply_offer raw xs) found)
  where
    P : WaitingReply → Bool
    P = is_leaving raw xs k n

    left : (a b : Bool) → (a && b) ≡ true → a ≡ true
    left true b n = refl
    left false b n = absurd cc

    its : (v : WaitingReply) → is_leaving raw xs k n v ≡ true → v.number ≡ n
    its v h = equal_of v.number n (left (v.number == n) (leaves_to raw xs k v) h)

    at : Some i ≡ position (holds (is_leaving raw xs k n)) ss
    at = at_spot (λ (v : WaitingReply). v.number) ss i d (is_leaving raw xs k n) (numbers_apart 0 next (held ss) r) l (ap (holds (is_leaving raw xs k n)) (sym e) ∙ t) (λ v u a b. its v a ∙ sym (its u b))

-- the first of all that can leave is offered
pub searched_offer : (raw : Bool) (xs : List PortView) (ss ts us : List (Spot WaitingReply)) (ws : List WaitingReply) (place : Option ℕ) (x : Offer) → ts ≡ ss → us ≡ ss → held ss ≡ ws → place ≡ position (holds (can_leave raw xs)) us
    → ((P : WaitingReply → Bool) → place ≡ position (holds P) ts → x ≡ reply_offer raw xs (find P (held ts))) → OffersFirst raw xs ws x
searched_offer raw xs ss ts us ws place x e g f p o =
    (find (can_leave raw xs) ws, searched raw xs ws (find (can_leave raw xs) ws) refl, o (can_leave raw xs) (p ∙ ap (position (holds (can_leave raw xs))) (g ∙ sym e)) ∙ ap (λ (vs : List WaitingReply). reply_offer raw xs (find (can_leave raw xs) vs)) (ap held e ∙ f))

-- what the index shows is offered
pub keyed_offer : (raw : Bool) (xs : List PortView) (below next : ℕ) (ks : List (ℕ × ℕ)) (k n : ℕ) (ws : List WaitingReply) (r : Option Offer) → IsLeast below ks (Some (k, n)) → AreKeyed raw ks ws → AreRising 0 next ws → IfSome r (OffersIts raw xs k n ws) → IfSome r (OffersFirst raw xs ws)
keyed_offer raw xs below next ks k n ws None l h r o = o
keyed_offer raw xs below next ks k n ws (Some x) l h r o = (Some o.0, (k, first_leaves raw xs below next ks (k, n) ws o.0 l h r o.1), o.2)

-- what is at one more spot is in the index
pub keyed_next : (raw : Bool) (old new : List (ℕ × ℕ)) (ss : List (Spot WaitingReply)) (i : ℕ) (s : Spot WaitingReply) → i < length ss → s ≡ slice_index_or ss i s → ((k m : ℕ) → has_key k m old ≡ true → has_key k m new ≡ true) → AreKeyed raw new (with_value s.value [])
    → AreKeyed raw old (held (take i ss)) → AreKeyed raw new (held (take (i + 1) ss))
keyed_next raw old new ss i s l e u k h =
    subst (λ (ts : List (Spot WaitingReply)). AreKeyed raw new (held ts)) (sym (take_more ss i s l ∙ ap (λ (t : Spot WaitingReply). take i ss ++ t ∷ []) (sym e)))
    (subst (AreKeyed raw new) (sym (held_more (take i ss) s)) (keyed_both raw new (held (take i ss)) (with_value s.value []) (keyed_more raw old new (held (take i ss)) u h) k))

-- one more is in the index, after all others
pub keyed_last : (raw : Bool) (old new : List (ℕ × ℕ)) (ws ys : List WaitingReply) (w : WaitingReply) (k n : ℕ) → AreKeyed raw old ws → ys ≡ ws ++ w ∷ [] → k ≡ reply_key raw w → n ≡ w.number → has_key k n new ≡ true
    → ((k m : ℕ) → has_key k m old ≡ true → has_key k m new ≡ true) → AreKeyed raw new ys
keyed_last raw old new ws ys w k n h e f g i u = subst (AreKeyed raw new) (sym e) (keyed_both raw new ws (w ∷ []) (keyed_more raw old new ws u h) (subst (λ m. has_key m w.number new ≡ true) f (subst (λ m. has_key k m new ≡ true) g i), tt))

-- ---- The index is for replies that are raw or not, as asked

pub same_raw : (a b : Bool) → not (beq a b) ≡ false → a ≡ b
same_raw true true h = refl
same_raw true false h = absurd cc
same_raw false true h = absurd cc
same_raw false false h = refl

pub passed_on : (raw own : Bool) (xs : List PortView) (from to : ℕ) (ks : List (ℕ × ℕ)) (ws : List WaitingReply) → raw ≡ own → AreFull xs from to ks → AreKeyed own ks ws → list_any (can_leave raw xs) (filter (is_below own from) ws) ≡ false → list_any (can_leave raw xs) (filter (is_below own to) ws) ≡ false
passed_on raw own xs from to ks ws e f h s =
    subst (λ (b : Bool). list_any (can_leave b xs) (filter (is_below own to) ws) ≡ false) (sym e) (full_passed own xs from to ks ws f h (subst (λ (b : Bool). list_any (can_leave b xs) (filter (is_below own from) ws) ≡ false) e s))

pub its_first : (raw own : Bool) (xs : List PortView) (from below next : ℕ) (ks : List (ℕ × ℕ)) (ws vs us : List WaitingReply) (first : Option (ℕ × ℕ)) (r : Option Offer) → raw ≡ own → vs ≡ ws → ws ≡ us → AreFull xs from below ks → IsLeast below ks first → AreKeyed own ks ws → AreRising 0 next ws
    → list_any (can_leave raw xs) (filter (is_below own from) ws) ≡ false
    → ((below next : ℕ) (ks : List (ℕ × ℕ)) → IsLeast below ks first → AreKeyed raw ks vs → AreRising 0 next vs → list_any (can_leave raw xs) (filter (is_below raw below) vs) ≡ false → IfSome r (OffersFirst raw xs vs))
    → IfSome r (OffersFirst raw xs us)
its_first raw own xs from below next ks ws vs us first r e f g full least keyed rising s o =
    subst (λ (ys : List WaitingReply). IfSome r (OffersFirst raw xs ys)) (f ∙ g)
    (o below next ks least (rw (e, f) keyed) (rw f rising) (rw f (subst (λ (b : Bool). list_any (can_leave raw xs) (filter (is_below b below) ws) ≡ false) (sym e) (passed_on raw own xs from below ks ws e full keyed s))))
