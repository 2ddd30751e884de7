-- How many of the links that are being opened each listener brought.
use Rattle.std.proofs.Common.{◌≡◌, ◌≤◌, ◌<◌, ◌+◌, ◌-◌, ◌++◌, ◌∷◌, ℕ, zero, suc, Bool, true, false, cond, List, [], length, length-append, Option, Some, None, refl, sym, ap, subst, ◌∙◌, arith, inl, inr, get_or}
use Rattle.std.specs.Prelude.{min, nat_le, nat_lt, ◌==◌, ◌⊎◌}
use Rattle.std.specs.List.{AllByRecursion}
use Rattle.std.proofs.lemmas.Bool.Decides.{nat_tests}
use Rattle.std.proofs.lemmas.Bool.{cases_lt}
use Rattle.sp_ends.specs.declared.newcomer.Newcomer.{Newcomer}
use Rattle.sp_ends.specs.Listening.{is_from, one_from, own_of, one_dialed, dialed_of, KeepsFrom, FewerOwn, IsFromOne, AreCounted, room_for, one_open, open_of, asks_one, asks_to}

-- ---- One is or is not

pub one_at_most : (i : ℕ) (from : Option ℕ) → one_from i from ≤ 1
one_at_most i from = go (is_from i from)
  where
    go : (b : Bool) → cond b 1 0 ≤ 1
    go true = omega arith
    go false = omega arith

pub one_none : (i : ℕ) (from : Option ℕ) → is_from i from ≡ false → one_from i from ≡ 0
one_none i from e = ap (λ b. cond b 1 0) e

pub one_is : (i : ℕ) → one_from i (Some i) ≡ 1
one_is i = let e : (i == i) ≡ true = grind (arith, nat_tests) in ap (λ b. cond b 1 0) e

pub other_place : (i k : ℕ) → (k < i) ⊎ (i + 1 ≤ k) → is_from k (Some i) ≡ false
other_place i k (inl lt) = grind (arith, nat_tests)
other_place i k (inr le) = grind (arith, nat_tests)

dialed_at_most : (from : Option ℕ) → one_dialed from ≤ 1
dialed_at_most None = omega arith
dialed_at_most (Some i) = omega arith

-- ---- One may come after them

module _ {L : Type 0} where
  pub own_short : (i : ℕ) (ns : List (Newcomer L)) → own_of i ns ≤ length ns
  own_short i [] = omega arith
  own_short i (n ∷ ns) = let l = own_short i ns in let o = one_at_most i n.from in omega (arith, l, o)

  pub own_more : (i : ℕ) (ns : List (Newcomer L)) (n : Newcomer L) → own_of i (ns ++ n ∷ []) ≡ own_of i ns + one_from i n.from
  own_more i [] n = refl
  own_more i (m ∷ ns) n = let e = own_more i ns n in omega (arith, e)

  pub dialed_more : (ns : List (Newcomer L)) (n : Newcomer L) → dialed_of (ns ++ n ∷ []) ≡ dialed_of ns + one_dialed n.from
  dialed_more [] n = refl
  dialed_more (m ∷ ns) n = let e = dialed_more ns n in omega (arith, e)

  -- ---- One more may follow them

  -- of another listener, or of no listener
  pub own_other : (i : ℕ) (from : Option ℕ) (a b : List (Newcomer L)) → is_from i from ≡ false → KeepsFrom from a b → own_of i b ≡ own_of i a
  own_other i from a b off (inl same) = ap (own_of i) same
  own_other i from a b off (inr (n, is, new)) =
      let e = own_more i a n in
      let z = one_none i n.from (ap (is_from i) is ∙ off) in
      let w = ap (own_of i) new in omega (arith, e, z, w)

  pub own_none : (i : ℕ) (a b : List (Newcomer L)) → KeepsFrom None a b → own_of i b ≡ own_of i a
  own_none i a b k = own_other i None a b refl k

  pub own_one : (i : ℕ) (from : Option ℕ) (a b : List (Newcomer L)) → KeepsFrom from a b → own_of i b ≤ own_of i a + one_from i from
  own_one i from a b (inl same) = let w = ap (own_of i) same in omega (arith, w)
  own_one i from a b (inr (n, is, new)) =
      let e = own_more i a n in
      let o = ap (one_from i) is in
      let w = ap (own_of i) new in omega (arith, e, o, w)

  -- as many more as there are
  pub own_grown : (i : ℕ) (from : Option ℕ) (a b : List (Newcomer L)) → KeepsFrom from a b → own_of i b + length a ≤ own_of i a + length b
  own_grown i from a b (inl same) = let w = ap (own_of i) same in let l = ap length same in omega (arith, w, l)
  own_grown i from a b (inr (n, is, new)) =
      let e = own_more i a n in
      let o = one_at_most i n.from in
      let w = ap (own_of i) new in
      let l = ap length new in
      let m = length-append a (n ∷ []) in omega (arith, e, o, w, l, m)

  pub dialed_one : (from : Option ℕ) (a b : List (Newcomer L)) → KeepsFrom from a b → dialed_of b ≤ dialed_of a + one_dialed from
  dialed_one from a b (inl same) = let w = ap dialed_of same in omega (arith, w)
  dialed_one from a b (inr (n, is, new)) =
      let e = dialed_more a n in
      let o = ap one_dialed is in
      let w = ap dialed_of new in omega (arith, e, o, w)

  pub dialed_same : (i : ℕ) (a b : List (Newcomer L)) → KeepsFrom (Some i) a b → dialed_of b ≡ dialed_of a
  dialed_same i a b (inl same) = ap dialed_of same
  dialed_same i a b (inr (n, is, new)) =
      let e = dialed_more a n in
      let o = ap one_dialed is in
      let w = ap dialed_of new in omega (arith, e, o, w)

  -- the first was taken out, and may come after the others again
  pub fewer_step : (n : Newcomer L) (a rest b : List (Newcomer L)) → a ≡ n ∷ rest → KeepsFrom n.from rest b → FewerOwn a b
  fewer_step n a rest b first k = record {
    own = λ i. let l = own_one i n.from rest b k in let w = ap (own_of i) first in omega (arith, l, w);
    dialed = let l = dialed_one n.from rest b k in let w = ap dialed_of first in omega (arith, l, w);
  }

  pub fewer_none : (a : List (Newcomer L)) → FewerOwn a a
  fewer_none a = record { own = λ i. omega arith; dialed = omega arith }

  pub fewer_both : (a b c : List (Newcomer L)) → FewerOwn a b → FewerOwn b c → FewerOwn a c
  fewer_both a b c x y = record {
    own = λ i. let p = x.own i in let q = y.own i in omega (arith, p, q);
    dialed = let p = x.dialed in let q = y.dialed in omega (arith, p, q);
  }

  -- ---- What may be asked

  pub open_most : (i : ℕ) (ns : List (Newcomer L)) → one_open i ns ≤ 1
  open_most i ns = go (nat_lt (own_of i ns) 256)
    where
      go : (b : Bool) → cond b 1 0 ≤ 1
      go true = omega arith
      go false = omega arith

  -- a listener that is full isn't asked; otherwise it was asked, unless what was handed out filled it
  pub open_full : (i : ℕ) (a : List (Newcomer L)) (now handed : ℕ) → 256 ≤ now → now ≤ own_of i a + handed → one_open i a ≤ handed
  open_full i a now handed full le = go (nat_lt (own_of i a) 256) refl
    where
      go : (b : Bool) → nat_lt (own_of i a) 256 ≡ b → cond b 1 0 ≤ handed
      go true e = let lt : own_of i a < 256 = grind (arith, nat_tests) in omega (arith, lt, full, le)
      go false e = omega arith

  pub open_step : (i : ℕ) (a b : List (Newcomer L)) → own_of i b ≤ own_of i a → one_open i a ≤ one_open i b
  open_step i a b le = go (nat_lt (own_of i a) 256) refl (nat_lt (own_of i b) 256) refl
    where
      go : (x : Bool) → nat_lt (own_of i a) 256 ≡ x → (y : Bool) → nat_lt (own_of i b) 256 ≡ y → cond x 1 0 ≤ cond y 1 0
      go false e y f = omega arith
      go true e true f = omega arith
      go true e false f = absurd (grind (arith, nat_tests))

  -- fewer more are asked
  pub open_less : (i : ℕ) (a b : List (Newcomer L)) → ((k : ℕ) → own_of k b ≤ own_of k a) → open_of i a ≤ open_of i b
  open_less zero a b le = omega arith
  open_less (suc i) a b le = let x = open_less i a b le in let y = open_step i a b (le i) in omega (arith, x, y)

  -- all are asked where fewer than 256 links are being opened
  pub all_open : (i : ℕ) (ns : List (Newcomer L)) → length ns < 256 → open_of i ns ≡ i
  all_open zero ns lt = refl
  all_open (suc i) ns lt =
      let x = all_open i ns lt in
      let s = own_short i ns in
      let o : nat_lt (own_of i ns) 256 ≡ true = grind (arith, nat_tests) in
      let one : one_open i ns ≡ 1 = ap (λ b. cond b 1 0) o in omega (arith, x, one)

  pub asks_most : (i handed : ℕ) (ns : List (Newcomer L)) → asks_one i handed ns ≤ 16
  asks_most i handed ns = go (nat_le 256 (own_of i ns + handed))
    where
      go : (b : Bool) → cond b (min 16 (256 - own_of i ns)) 16 ≤ 16
      go true = omega arith
      go false = omega arith

  -- it has 256
  pub asks_full : (i : ℕ) (a : List (Newcomer L)) (now handed : ℕ) → 256 ≤ now → now ≤ own_of i a + handed → asks_one i handed a ≤ handed
  asks_full i a now handed full le = go (nat_le 256 (own_of i a + handed)) refl
    where
      go : (b : Bool) → nat_le 256 (own_of i a + handed) ≡ b → cond b (min 16 (256 - own_of i a)) 16 ≤ handed
      go true e = omega (arith, full, le)
      go false e = absurd (grind (arith, nat_tests))

  -- the more it has and the more are handed out, the less often it is asked
  pub asks_step : (i h h' : ℕ) (a b : List (Newcomer L)) → h ≤ h' → own_of i b ≤ own_of i a → asks_one i h' a ≤ asks_one i h b
  asks_step i h h' a b more le = go (nat_le 256 (own_of i a + h')) refl (nat_le 256 (own_of i b + h)) refl
    where
      go : (x : Bool) → nat_le 256 (own_of i a + h') ≡ x → (y : Bool) → nat_le 256 (own_of i b + h) ≡ y → cond x (min 16 (256 - own_of i a)) 16 ≤ cond y (min 16 (256 - own_of i b)) 16
      go true e true f = omega (arith, le)
      go true e false f = omega arith
      go false e false f = omega arith
      go false e true f = absurd (grind (arith, nat_tests))

  pub asks_less : (i h h' : ℕ) (a b : List (Newcomer L)) → h ≤ h' → ((k : ℕ) → own_of k b ≤ own_of k a) → asks_to i h' a ≤ asks_to i h b
  asks_less zero h h' a b more le = omega arith
  asks_less (suc i) h h' a b more le = let x = asks_less i h h' a b more le in let y = asks_step i h h' a b more (le i) in omega (arith, x, y)

-- ---- Counts that are kept

get_more : (cs : List ℕ) (i : ℕ) → get_or (cs ++ 0 ∷ []) i 0 ≡ get_or cs i 0
get_more [] zero = refl
get_more [] (suc i) = refl
get_more (c ∷ cs) zero = refl
get_more (c ∷ cs) (suc i) = get_more cs i

get_past : (cs : List ℕ) (i : ℕ) → length cs ≤ i → get_or cs i 0 ≡ 0
get_past [] i le = refl
get_past (c ∷ cs) zero le = absurd (omega (arith, le))
get_past (c ∷ cs) (suc i) le = get_past cs i (omega (arith, le))

-- the listener doesn't exist
off_past : (m i : ℕ) (from : Option ℕ) → IsFromOne m from → m ≤ i → one_from i from ≡ 0
off_past m i None w le = refl
off_past m i (Some j) w le = one_none i (Some j) (grind (arith, nat_tests))

from_later : (m n : ℕ) (from : Option ℕ) → m ≤ n → IsFromOne m from → IsFromOne n from
from_later m n None le w = tt
from_later m n (Some j) le w = omega (arith, le, w)

module _ {L : Type 0} where
  abbrev All : ℕ → List (Newcomer L) → Type 0
  All m ns = AllByRecursion (λ (n : Newcomer L). IsFromOne m n.from) ns

  own_past : (m i : ℕ) (ns : List (Newcomer L)) → All m ns → m ≤ i → own_of i ns ≡ 0
  own_past m i [] all le = refl
  own_past m i (n ∷ ns) all le = let x = own_past m i ns all.1 le in let y = off_past m i n.from all.0 le in omega (arith, x, y)

  all_later : (m k : ℕ) (ns : List (Newcomer L)) → m ≤ k → All m ns → All k ns
  all_later m k [] le all = tt
  all_later m k (n ∷ ns) le all = (from_later m k n.from le all.0, all_later m k ns le all.1)

  all_more : (m : ℕ) (ns : List (Newcomer L)) (n : Newcomer L) → All m ns → IsFromOne m n.from → All m (ns ++ n ∷ [])
  all_more m [] n all w = (w, tt)
  all_more m (x ∷ ns) n all w = (all.0, all_more m ns n all.1 w)

  -- the same, with as much room or more
  pub counted_as : (cs cs' : List ℕ) (m m' : ℕ) (ns ns' : List (Newcomer L)) (cap cap' : ℕ) → cs' ≡ cs → m' ≡ m → ns' ≡ ns → cap ≤ cap' → AreCounted cs m ns cap → AreCounted cs' m' ns' cap'
  counted_as cs cs' m m' ns ns' cap cap' e f g le a =
      subst (λ (xs : List ℕ). AreCounted xs m' ns' cap') (sym e) (subst (λ (k : ℕ). AreCounted cs k ns' cap') (sym f) (subst (λ (xs : List (Newcomer L)). AreCounted cs m xs cap') (sym g) (record { lengths = a.lengths; counted = a.counted; within = a.within; few = a.few; room = omega (arith, a.room, le) })))

  -- one more listener
  pub counted_listener : (cs : List ℕ) (m : ℕ) (ns : List (Newcomer L)) (cap cap' : ℕ) → AreCounted cs m ns cap → room_for (m + 1) ≤ cap' → AreCounted (cs ++ 0 ∷ []) (m + 1) ns cap'
  counted_listener cs m ns cap cap' a room = record {
    lengths = let l = length-append cs (0 ∷ []) in omega (arith, l, a.lengths);
    counted = λ i lt. get_more cs i ∙ go i (cases_lt i (length cs));
    within = all_later m (m + 1) ns (omega arith) a.within;
    few = omega (arith, a.few);
    room = room;
  }
    where
      go : (i : ℕ) → (i < length cs) ⊎ (length cs ≤ i) → get_or cs i 0 ≡ own_of i ns
      go i (inl lt) = a.counted i lt
      go i (inr le) = get_past cs i le ∙ sym (own_past m i ns a.within (omega (arith, le, a.lengths)))

  -- one more link
  pub counted_more : (cs cs' : List ℕ) (m : ℕ) (ns : List (Newcomer L)) (n : Newcomer L) (cap : ℕ) → AreCounted cs m ns cap → length cs' ≡ length cs → ((i : ℕ) → i < length cs → get_or cs' i 0 ≡ get_or cs i 0 + one_from i n.from) → IsFromOne m n.from → length ns < room_for m → AreCounted cs' m (ns ++ n ∷ []) cap
  counted_more cs cs' m ns n cap a same more w room = record {
    lengths = same ∙ a.lengths;
    counted = λ i lt. let c = a.counted i (omega (arith, lt, same)) in let d = more i (omega (arith, lt, same)) in let o = own_more i ns n in omega (arith, c, d, o);
    within = all_more m ns n a.within w;
    few = let l = length-append ns (n ∷ []) in omega (arith, l, room);
    room = a.room;
  }

  -- without the first
  pub counted_rest : (cs cs' : List ℕ) (m : ℕ) (n : Newcomer L) (ns : List (Newcomer L)) (cap : ℕ) → AreCounted cs m (n ∷ ns) cap → length cs' ≡ length cs → ((i : ℕ) → i < length cs → get_or cs i 0 ≡ get_or cs' i 0 + one_from i n.from) → AreCounted cs' m ns cap
  counted_rest cs cs' m n ns cap a same less = record {
    lengths = same ∙ a.lengths;
    counted = λ i lt. let c = a.counted i (omega (arith, lt, same)) in let d = less i (omega (arith, lt, same)) in omega (arith, c, d);
    within = a.within.1;
    few = omega (arith, a.few);
    room = a.room;
  }

  -- no count is at its type's maximum
  pub counted_small : (cs : List ℕ) (m : ℕ) (ns : List (Newcomer L)) (cap end : ℕ) → AreCounted cs m ns cap → length ns < end → (i : ℕ) → i < length cs → get_or cs i 0 < end
  counted_small cs m ns cap end a few i lt = let c = a.counted i lt in let s = own_short i ns in omega (arith, c, s, few)
