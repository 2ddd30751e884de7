-- The topics of a context are found by the prefixes of a body.
use Rattle.std.proofs.Common.{◌≡◌, refl, ap, sym, ◌∙◌, subst, List, [], ◌∷◌, ◌++◌, ℕ, zero, suc, ◌≤◌, Bool, true, false, cond, arith, length, take}
use Rattle.std.specs.Prelude.{not, ◌||◌, ◌&&◌, ◌==◌, nat_eq, nat_le, Vec}
use Rattle.std.specs.List.{list_any, AllByRecursion as Each}
use Rattle.std.specs.Ordering.{is_eq, nat_cmp, eq_by_cmp}
use Rattle.std.specs.Cmp.Lexicographic.{slice_cmp}
use Rattle.std.specs.Map.{IsKeyTest, AreApart}
use Rattle.std.specs.Set.{KeepsOthers}
use Rattle.std.proofs.lemmas.Bool.Decides.{nat_tests}
use Rattle.std.proofs.lemmas.List.Elements.{recursion_from_All}
use Rattle.std.proofs.lemmas.List.Folds.{list_any-append}
use Rattle.std.proofs.lemmas.Map.Text.{is_eq-slice_cmp}
use Rattle.std.proofs.lemmas.Map.Views.{any-filter_same}
use Rattle.sp_history.specs.Lists.{has, without, same_bytes, matches}
use Rattle.sp_history.specs.Kept.{is_wanted_by}
use Rattle.sp_history.specs.Legal.{has_topic}
use Rattle.proto_pubsub.specs.SubContexts.{topics_without}
use Rattle.proto_pubsub.specs.Topics.{is_known, is_prefix, IsIndex, AreShort, IsWantedByPrefix}

-- ---- Texts

same_refl : (a : List ℕ) → same_bytes a a ≡ true
same_refl [] = refl
same_refl (x ∷ a) = rw (one x) (same_refl a)
  where
    one : (n : ℕ) → nat_eq n n ≡ true
    one n = grind (arith, nat_tests)

same_is : (a b : List ℕ) → same_bytes a b ≡ true → a ≡ b
same_is [] [] h = refl
same_is [] (y ∷ b) h = absurd cc
same_is (x ∷ a) [] h = absurd cc
same_is (x ∷ a) (y ∷ b) h = go (nat_eq x y) refl h (same_is a b)
  where
    one : (m n : ℕ) → nat_eq m n ≡ true → m ≡ n
    one m n e = grind (arith, nat_tests)

    go : (c : Bool) → nat_eq x y ≡ c → (c && same_bytes a b) ≡ true → (same_bytes a b ≡ true → a ≡ b) → x ∷ a ≡ y ∷ b
    go true e k again = ap (λ (n : ℕ). n ∷ a) (one x y e) ∙ ap (λ (r : List ℕ). y ∷ r) (again k)
    go false e k again = absurd cc

same_turned : (a b : List ℕ) (c : Bool) → same_bytes a b ≡ c → same_bytes b a ≡ c
same_turned a b true h = subst (λ (x : List ℕ). same_bytes x a ≡ true) (same_is a b h) (same_refl a)
same_turned a b false h = go (same_bytes b a) refl
  where
    go : (c : Bool) → same_bytes b a ≡ c → c ≡ false
    go true e = let k : true ≡ false = sym (same_refl a) ∙ ap (same_bytes a) (sym (same_is b a e)) ∙ h in absurd cc
    go false e = refl

is_same : (a b : List ℕ) → is_eq (slice_cmp nat_cmp a b) ≡ same_bytes a b
is_same a b = is_eq-slice_cmp a b

-- ---- One more key, or one fewer

module _ {Z : Type 0} where
  -- what is known of every text, where one key is added or removed
  pub updated : (old new : List (Vec ℕ Z)) (t b : List ℕ) (value : Bool) → is_known new t ≡ value
      → KeepsOthers (eq_by_cmp (λ x y. slice_cmp nat_cmp x.items y.items)) (λ k. is_eq (slice_cmp nat_cmp t k.items)) old new → is_known new b ≡ cond (same_bytes b t) value (is_known old b)
  unfolding KeepsOthers
  updated old new t b value here others = go (same_bytes b t) refl
    where
      key : IsKeyTest (eq_by_cmp (λ (x : Vec ℕ Z) (y : Vec ℕ Z). slice_cmp nat_cmp x.items y.items)) (λ k. is_eq (slice_cmp nat_cmp b k.items))
      key x y e = ap (λ (a : List ℕ). is_eq (slice_cmp nat_cmp a y.items)) (same_is b x.items (sym (is_same b x.items) ∙ e))

      apart : same_bytes b t ≡ false → AreApart (λ (k : Vec ℕ Z). is_eq (slice_cmp nat_cmp t k.items)) (λ k. is_eq (slice_cmp nat_cmp b k.items))
      apart n k e =
          let is : t ≡ k.items = same_is t k.items (sym (is_same t k.items) ∙ e) in
          is_same b k.items ∙ ap (same_bytes b) (sym is) ∙ n

      go : (c : Bool) → same_bytes b t ≡ c → is_known new b ≡ cond c value (is_known old b)
      go true e = ap (is_known new) (same_is b t e) ∙ here
      go false e = others (λ k. is_eq (slice_cmp nat_cmp b k.items)) key (apart e)

has_more : (ts : List (List ℕ)) (t b : List ℕ) → has_topic (ts ++ t ∷ []) b ≡ cond (same_bytes b t) true (has_topic ts b)
has_more ts t b = list_any-append (λ u. same_bytes u b) ts (t ∷ []) ∙ go (same_bytes b t) refl (has_topic ts b)
  where
    go : (c : Bool) → same_bytes b t ≡ c → (a : Bool) → (a || (same_bytes t b || false)) ≡ cond c true a
    go true e true = refl
    go true e false = ap (λ (x : Bool). x || false) (same_turned b t true e)
    go false e true = refl
    go false e false = ap (λ (x : Bool). x || false) (same_turned b t false e)

has_fewer : (ts : List (List ℕ)) (t b : List ℕ) → has_topic (topics_without t ts) b ≡ cond (same_bytes b t) false (has_topic ts b)
has_fewer [] t b = go (same_bytes b t)
  where
    go : (c : Bool) → false ≡ cond c false false
    go true = refl
    go false = refl
has_fewer (u ∷ ts) t b = go (same_bytes u t) refl (same_bytes u b) refl (same_bytes b t) refl (has_fewer ts t b)
  where
    keep : (x : Bool) → same_bytes u b ≡ x → (same_bytes u b || has_topic (topics_without t ts) b) ≡ (x || has_topic (topics_without t ts) b)
    keep x e = ap (λ (y : Bool). y || has_topic (topics_without t ts) b) e

    clash : same_bytes u t ≡ true → same_bytes u b ≡ true → same_bytes b t ≡ false → ⊥
    clash e f g = let no : true ≡ false = sym e ∙ ap (λ (a : List ℕ). same_bytes a t) (same_is u b f) ∙ g in absurd cc

    meet : same_bytes u t ≡ false → same_bytes u b ≡ true → same_bytes b t ≡ true → ⊥
    meet e f g = let no : true ≡ false = sym g ∙ ap (λ (a : List ℕ). same_bytes a t) (sym (same_is u b f)) ∙ e in absurd cc

    go : (x : Bool) → same_bytes u t ≡ x → (y : Bool) → same_bytes u b ≡ y → (z : Bool) → same_bytes b t ≡ z → has_topic (topics_without t ts) b ≡ cond z false (has_topic ts b)
        → has_topic (cond (not x) (u ∷ topics_without t ts) (topics_without t ts)) b ≡ cond z false (y || has_topic ts b)
    go true e true f true g k = k
    go true e true f false g k = absurd (clash e f g)
    go true e false f z g k = k
    go false e true f true g k = absurd (meet e f g)
    go false e true f false g k = keep true f
    go false e false f z g k = keep false f ∙ k

-- ---- The index stays one

pub index_none : {Z : Type 0} (ks : List (Vec ℕ Z)) (lens : List ℕ) → ks ≡ [] → IsIndex ks lens []
index_none {Z = Z} ks lens e = subst (λ (xs : List (Vec ℕ Z)). IsIndex xs lens []) (sym e) (λ b. refl, λ b h. absurd cc)

module _ {Z : Type 0} (old new : List (Vec ℕ Z)) (lens now : List ℕ) (ts : List (List ℕ)) (t : List ℕ) where
  pub index_more : IsIndex old lens ts → ((b : List ℕ) → is_known new b ≡ cond (same_bytes b t) true (is_known old b)) → has now (length t) ≡ true → ((n : ℕ) → has lens n ≡ true → has now n ≡ true) → IsIndex new now (ts ++ t ∷ [])
  index_more h e here others = (λ b. e b ∙ ap (λ (x : Bool). cond (same_bytes b t) true x) (h.0 b) ∙ sym (has_more ts t b), λ b k. long b (same_bytes b t) refl (sym (has_more ts t b) ∙ k))
    where
      long : (b : List ℕ) (c : Bool) → same_bytes b t ≡ c → cond c true (has_topic ts b) ≡ true → has now (length b) ≡ true
      long b true f k = ap (λ (x : List ℕ). has now (length x)) (same_is b t f) ∙ here
      long b false f k = others (length b) (h.1 b k)

  pub index_fewer : IsIndex old lens ts → ((b : List ℕ) → is_known new b ≡ cond (same_bytes b t) false (is_known old b))
      → ((b : List ℕ) → has_topic (topics_without t ts) b ≡ true → has lens (length b) ≡ true → has now (length b) ≡ true) → IsIndex new now (topics_without t ts)
  index_fewer h e left = (λ b. e b ∙ ap (λ (x : Bool). cond (same_bytes b t) false x) (h.0 b) ∙ sym (has_fewer ts t b), λ b k. left b k (long b (same_bytes b t) (sym (has_fewer ts t b) ∙ k)))
    where
      long : (b : List ℕ) (c : Bool) → cond c false (has_topic ts b) ≡ true → has lens (length b) ≡ true
      long b true k = absurd cc
      long b false k = h.1 b k

-- a length that no topic has may be removed
pub length_left : (lens : List ℕ) (us : List (List ℕ)) (n : ℕ) → list_any (λ u. length u == n) us ≡ false → (b : List ℕ) → has_topic us b ≡ true → has lens (length b) ≡ true → has (without lens n) (length b) ≡ true
length_left lens us n none b h k = any-filter_same (λ y. y == length b) (λ y. not (y == n)) true stays lens ∙ k
  where
    fewer : (x y : Bool) → (x || y) ≡ false → (x ≡ false) × (y ≡ false)
    fewer true y e = absurd cc
    fewer false y e = (refl, e)

    differs : (us : List (List ℕ)) → list_any (λ u. length u == n) us ≡ false → has_topic us b ≡ true → (length b == n) ≡ false
    differs [] none h = absurd cc
    differs (u ∷ us) none h = go (same_bytes u b) refl h (differs us (fewer _ _ none).1)
      where
        go : (c : Bool) → same_bytes u b ≡ c → (c || has_topic us b) ≡ true → (has_topic us b ≡ true → (length b == n) ≡ false) → (length b == n) ≡ false
        go true e k again = ap (λ (x : List ℕ). length x == n) (sym (same_is u b e)) ∙ (fewer _ _ none).0
        go false e k again = again k

    other : (x m : ℕ) → (x == m) ≡ true → (m == n) ≡ false → (x == n) ≡ false
    other x m e f = grind (arith, nat_tests)

    stays : (x : ℕ) → (x == length b) ≡ true → not (x == n) ≡ true
    stays x e = ap not (other x (length b) e (differs us none h))

-- ---- Prefixes

prefix_length : (t b : List ℕ) → t ≡ take (length t) b → length t ≤ length b
prefix_length [] b h = omega arith
prefix_length (x ∷ t) [] h = absurd cc
prefix_length (x ∷ t) (y ∷ b) h = let rest : t ≡ take (length t) b = cc in omega (arith, prefix_length t b rest)

take_length : (n : ℕ) (b : List ℕ) → n ≤ length b → length (take n b) ≡ n
take_length zero b h = refl
take_length (suc n) [] h = absurd (omega arith)
take_length (suc n) (y ∷ b) h = omega (arith, take_length n b (omega (arith, h)))

-- a topic that matches is in the list
wanted_has : (ts : List (List ℕ)) (b : List ℕ) → is_wanted_by ts b ≡ true → (t : List ℕ) × (has_topic ts t ≡ true) × (t ≡ take (length t) b)
wanted_has [] b h = absurd cc
wanted_has (u ∷ ts) b h = go (matches b u) refl h (wanted_has ts b)
  where
    or_more : (a c : Bool) → c ≡ true → (a || c) ≡ true
    or_more true c e = refl
    or_more false c e = e

    go : (c : Bool) → matches b u ≡ c → (c || is_wanted_by ts b) ≡ true → (is_wanted_by ts b ≡ true → (t : List ℕ) × (has_topic ts t ≡ true) × (t ≡ take (length t) b)) → (t : List ℕ) × (has_topic (u ∷ ts) t ≡ true) × (t ≡ take (length t) b)
    go true e k again = (u, ap (λ (x : Bool). x || has_topic ts u) (same_refl u), same_is u (take (length u) b) e)
    go false e k again = let r = again k in (r.0, or_more (same_bytes u r.0) (has_topic ts r.0) r.1, r.2)

has_wanted : (ts : List (List ℕ)) (b t : List ℕ) → has_topic ts t ≡ true → t ≡ take (length t) b → is_wanted_by ts b ≡ true
has_wanted [] b t h e = absurd cc
has_wanted (u ∷ ts) b t h e = go (same_bytes u t) refl h (λ k. has_wanted ts b t k e)
  where
    or_more : (a c : Bool) → c ≡ true → (a || c) ≡ true
    or_more true c k = refl
    or_more false c k = k

    go : (c : Bool) → same_bytes u t ≡ c → (c || has_topic ts t) ≡ true → (has_topic ts t ≡ true → is_wanted_by ts b ≡ true) → (matches b u || is_wanted_by ts b) ≡ true
    go true f k again =
        let is : u ≡ t = same_is u t f in
        let yes : matches b u ≡ true = ap (λ (x : List ℕ). same_bytes x (take (length x) b)) is ∙ ap (same_bytes t) (sym e) ∙ same_refl t in
        ap (λ (x : Bool). x || is_wanted_by ts b) yes
    go false f k again = or_more (matches b u) (is_wanted_by ts b) (again k)

-- where one test passes, a list that has the number passes it
any_has : (p : ℕ → Bool) (ns : List ℕ) (n : ℕ) → has ns n ≡ true → p n ≡ true → list_any p ns ≡ true
any_has p [] n h t = absurd cc
any_has p (m ∷ ns) n h t = go (m == n) refl h (any_has p ns n)
  where
    is : (m n : ℕ) → (m == n) ≡ true → m ≡ n
    is m n e = grind (arith, nat_tests)

    or_more : (a c : Bool) → c ≡ true → (a || c) ≡ true
    or_more true c e = refl
    or_more false c e = e

    go : (c : Bool) → (m == n) ≡ c → (c || has ns n) ≡ true → (has ns n ≡ true → p n ≡ true → list_any p ns ≡ true) → (p m || list_any p ns) ≡ true
    go true e k again = ap (λ (x : Bool). x || list_any p ns) (ap p (is m n e) ∙ t)
    go false e k again = or_more (p m) (list_any p ns) (again k t)

any_is : (p : ℕ → Bool) (ns : List ℕ) → list_any p ns ≡ true → (n : ℕ) × (p n ≡ true)
any_is p [] h = absurd cc
any_is p (m ∷ ns) h = go (p m) refl h (any_is p ns)
  where
    go : (c : Bool) → p m ≡ c → (c || list_any p ns) ≡ true → (list_any p ns ≡ true → (n : ℕ) × (p n ≡ true)) → (n : ℕ) × (p n ≡ true)
    go true e k again = (m, e)
    go false e k again = again k

both : (a b : Bool) → (a && b) ≡ true → (a ≡ true) × (b ≡ true)
both true b e = (refl, e)
both false b e = absurd cc

within : (m n : ℕ) → nat_le m n ≡ true → m ≤ n
within m n e = grind (arith, nat_tests)

in_it : (m n : ℕ) → m ≤ n → nat_le m n ≡ true
in_it m n e = grind (arith, nat_tests)

agree : (r w : Bool) → (r ≡ true → w ≡ true) → (w ≡ true → r ≡ true) → r ≡ w
agree true w h k = sym (h refl)
agree false true h k = k refl
agree false false h k = refl

-- a topic is found by the prefixes of the lengths
pub found_by_prefix : {Z : Type 0} (ks : List (Vec ℕ Z)) (lens : List ℕ) (ts : List (List ℕ)) (b : List ℕ) → IsIndex ks lens ts → list_any (is_prefix ks b) lens ≡ is_wanted_by ts b
found_by_prefix ks lens ts b h = agree (list_any (is_prefix ks b) lens) (is_wanted_by ts b) found wanted
  where
    found : list_any (is_prefix ks b) lens ≡ true → is_wanted_by ts b ≡ true
    found e =
        let at = any_is (is_prefix ks b) lens e in
        let parts = both (nat_le at.0 (length b)) (is_known ks (take at.0 b)) at.1 in
        let long : length (take at.0 b) ≡ at.0 = take_length at.0 b (within at.0 (length b) parts.0) in
        has_wanted ts b (take at.0 b) (sym (h.0 (take at.0 b)) ∙ parts.1) (ap (λ (m : ℕ). take m b) (sym long))

    wanted : is_wanted_by ts b ≡ true → list_any (is_prefix ks b) lens ≡ true
    wanted e =
        let r = wanted_has ts b e in
        let known : is_known ks (take (length r.0) b) ≡ true = ap (is_known ks) (sym r.2) ∙ h.0 r.0 ∙ r.1 in
        let least : nat_le (length r.0) (length b) ≡ true = in_it (length r.0) (length b) (prefix_length r.0 b r.2) in
        any_has (is_prefix ks b) lens (length r.0) (h.1 r.0 r.1) (ap (λ (x : Bool). x && is_known ks (take (length r.0) b)) least ∙ known)

-- ---- All prefixes

topic_short : (ts : List (List ℕ)) (t : List ℕ) → AreShort ts → has_topic ts t ≡ true → length t ≤ 1024
topic_short ts t short h = among ts (recursion_from_All (λ u. length u ≤ 1024) ts short) h
  where
    among : (us : List (List ℕ)) → Each (λ u. length u ≤ 1024) us → has_topic us t ≡ true → length t ≤ 1024
    among [] e h = absurd cc
    among (u ∷ us) e h = go (same_bytes u t) refl h (among us e.1)
      where
        go : (c : Bool) → same_bytes u t ≡ c → (c || has_topic us t) ≡ true → (has_topic us t ≡ true → length t ≤ 1024) → length t ≤ 1024
        go true f k again = subst (λ (x : List ℕ). length x ≤ 1024) (same_is u t f) e.0
        go false f k again = again k

-- one of the topics is a prefix of the body exactly where one of its prefixes is a topic
pub wanted_by_prefix : (ts : List (List ℕ)) (b : List ℕ) → AreShort ts → IsWantedByPrefix ts b
wanted_by_prefix ts b short = (there, back)
  where
    there : is_wanted_by ts b ≡ true → (n : ℕ) × (n ≤ length b) × (n ≤ 1024) × (has_topic ts (take n b) ≡ true)
    there e =
        let r = wanted_has ts b e in
        (length r.0, prefix_length r.0 b r.2, topic_short ts r.0 short r.1, ap (has_topic ts) (sym r.2) ∙ r.1)

    back : (n : ℕ) × (n ≤ length b) × (n ≤ 1024) × (has_topic ts (take n b) ≡ true) → is_wanted_by ts b ≡ true
    back k = has_wanted ts b (take k.0 b) k.3 (ap (λ (m : ℕ). take m b) (sym (take_length k.0 b k.1)))
