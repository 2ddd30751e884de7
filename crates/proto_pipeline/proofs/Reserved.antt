-- The places of a pull for frames.
use Rattle.std.proofs.Common.{◌≡◌, refl, ap, sym, ◌∙◌, subst, List, [], ◌∷◌, ◌++◌, ℕ, ◌+◌, ◌≤◌, Bool, true, false, cond, arith, length}
use Rattle.std.specs.Prelude.{not, ◌||◌, ◌==◌}
use Rattle.std.specs.List.{list_any}
use Rattle.std.proofs.lemmas.Bool.{or_parts}
use Rattle.std.proofs.lemmas.Bool.Decides.{nat_tests}
use Rattle.std.proofs.lemmas.List.Folds.{list_any-append}
use Rattle.sp_history.specs.declared.parts.Item.{Item}
use Rattle.sp_history.specs.Lists.{has, without}
use Rattle.sp_history.specs.Once.{AreDistinct}
use Rattle.sp_history.specs.Kept.{is_from}
use Rattle.proto_pipeline.specs.Pulls.{places_for}
use Rattle.proto_pipeline.proofs.Ports.{has_without, has_append}

turned : (m n : ℕ) (b : Bool) → (m == n) ≡ b → (n == m) ≡ b
turned m n true h = grind (arith, nat_tests)
turned m n false h = grind (arith, nat_tests)

equal_of : (m n : ℕ) → (m == n) ≡ true → m ≡ n
equal_of m n h = grind (arith, nat_tests)

one_more : (a : Bool) (x y : ℕ) → x ≤ y → cond a x (x + 1) ≤ cond a y (y + 1)
one_more true x y h = h
one_more false x y h = omega (arith, h)

pub places_most : (is : List Item) (us : List ℕ) → places_for is us ≤ length us
places_most is [] = omega arith
places_most is (u ∷ us) = go (list_any (is_from u) is) (places_most is us)
  where
    go : (a : Bool) → places_for is us ≤ length us → cond a (places_for is us) (places_for is us + 1) ≤ length (u ∷ us)
    go true h = omega (arith, h)
    go false h = omega (arith, h)

pub places_up : (is : List Item) (us : List ℕ) (p : ℕ) → places_for is (us ++ p ∷ []) ≤ places_for is us + 1
places_up is [] p = go (list_any (is_from p) is)
  where
    go : (a : Bool) → cond a 0 1 ≤ 1
    go true = omega arith
    go false = omega arith
places_up is (u ∷ us) p = go (list_any (is_from u) is) (places_up is us p)
  where
    go : (a : Bool) → places_for is (us ++ p ∷ []) ≤ places_for is us + 1 → cond a (places_for is (us ++ p ∷ [])) (places_for is (us ++ p ∷ []) + 1) ≤ cond a (places_for is us) (places_for is us + 1) + 1
    go true h = h
    go false h = omega (arith, h)

pub places_down : (is : List Item) (us : List ℕ) (p : ℕ) → places_for is (without us p) ≤ places_for is us
places_down is [] p = omega arith
places_down is (u ∷ us) p = go (u == p) (places_down is us p)
  where
    go : (b : Bool) → places_for is (without us p) ≤ places_for is us → places_for is (cond (not b) (u ∷ without us p) (without us p)) ≤ places_for is (u ∷ us)
    go true h = drops (list_any (is_from u) is)
      where
        drops : (a : Bool) → places_for is (without us p) ≤ cond a (places_for is us) (places_for is us + 1)
        drops true = h
        drops false = omega (arith, h)
    go false h = one_more (list_any (is_from u) is) _ _ h

-- one more item takes no more places
frame_most : (is : List Item) (i : Item) (us : List ℕ) → places_for (is ++ i ∷ []) us ≤ places_for is us
frame_most is i [] = omega arith
frame_most is i (u ∷ us) = subst (λ (b : Bool). cond b (places_for (is ++ i ∷ []) us) (places_for (is ++ i ∷ []) us + 1) ≤ places_for is (u ∷ us)) (sym (list_any-append (is_from u) is (i ∷ []))) (go (list_any (is_from u) is) (is_from u i) (frame_most is i us))
  where
    go : (a b : Bool) → places_for (is ++ i ∷ []) us ≤ places_for is us → cond (a || (b || false)) (places_for (is ++ i ∷ []) us) (places_for (is ++ i ∷ []) us + 1) ≤ cond a (places_for is us) (places_for is us + 1)
    go true b h = h
    go false true h = omega (arith, h)
    go false false h = omega (arith, h)

-- one of a pipe that is up, and of which none was kept, takes one place
pub places_frame : (is : List Item) (i : Item) (us : List ℕ) → has us i.pipe ≡ true → list_any (is_from i.pipe) is ≡ false → places_for (is ++ i ∷ []) us + 1 ≤ places_for is us
places_frame is i [] h n = absurd cc
places_frame is i (u ∷ us) h n = subst (λ (b : Bool). cond b (places_for (is ++ i ∷ []) us) (places_for (is ++ i ∷ []) us + 1) + 1 ≤ places_for is (u ∷ us)) (sym (list_any-append (is_from u) is (i ∷ []))) (go (u == i.pipe) refl h (frame_most is i us) (λ k. places_frame is i us k n))
  where
    apart : (a : Bool) → places_for (is ++ i ∷ []) us + 1 ≤ places_for is us → cond (a || (false || false)) (places_for (is ++ i ∷ []) us) (places_for (is ++ i ∷ []) us + 1) + 1 ≤ cond a (places_for is us) (places_for is us + 1)
    apart true k = k
    apart false k = omega (arith, k)

    go : (b : Bool) → (u == i.pipe) ≡ b → (b || has us i.pipe) ≡ true → places_for (is ++ i ∷ []) us ≤ places_for is us → (has us i.pipe ≡ true → places_for (is ++ i ∷ []) us + 1 ≤ places_for is us)
        → cond (list_any (is_from u) is || (is_from u i || false)) (places_for (is ++ i ∷ []) us) (places_for (is ++ i ∷ []) us + 1) + 1 ≤ cond (list_any (is_from u) is) (places_for is us) (places_for is us + 1)
    go true e k most again =
        let none : list_any (is_from u) is ≡ false = ap (λ (q : ℕ). list_any (is_from q) is) (equal_of u i.pipe e) ∙ n in
        let here : is_from u i ≡ true = turned u i.pipe true e in
        rw (none, here) (omega (arith, most))
    go false e k most again =
        let other : is_from u i ≡ false = turned u i.pipe false e in
        rw other (apart (list_any (is_from u) is) (again k))

-- one item fewer frees only the place of its pipe
other_places : (is : List Item) (i : Item) (us : List ℕ) → has us i.pipe ≡ false → places_for is us ≤ places_for (i ∷ is) us
other_places is i [] h = omega arith
other_places is i (u ∷ us) h =
    let parts = or_parts (u == i.pipe) (has us i.pipe) h in
    let other : is_from u i ≡ false = turned u i.pipe false parts.0 in
    rw other (one_more (list_any (is_from u) is) _ _ (other_places is i us parts.1))

pub places_give : (is : List Item) (i : Item) (us : List ℕ) → AreDistinct us → places_for is us ≤ places_for (i ∷ is) us + 1
places_give is i [] d = omega arith
places_give is i (u ∷ us) d = go (is_from u i) refl (places_give is i us d.1)
  where
    first : (a : Bool) → places_for is us ≤ places_for (i ∷ is) us → cond a (places_for is us) (places_for is us + 1) ≤ places_for (i ∷ is) us + 1
    first true k = omega (arith, k)
    first false k = omega (arith, k)

    later : (a : Bool) → places_for is us ≤ places_for (i ∷ is) us + 1 → cond a (places_for is us) (places_for is us + 1) ≤ cond a (places_for (i ∷ is) us) (places_for (i ∷ is) us + 1) + 1
    later true k = k
    later false k = omega (arith, k)

    go : (b : Bool) → is_from u i ≡ b → places_for is us ≤ places_for (i ∷ is) us + 1 → cond (list_any (is_from u) is) (places_for is us) (places_for is us + 1) ≤ cond (b || list_any (is_from u) is) (places_for (i ∷ is) us) (places_for (i ∷ is) us + 1) + 1
    go true e again =
        let none : has us i.pipe ≡ false = ap (has us) (equal_of i.pipe u e) ∙ d.0 in
        first (list_any (is_from u) is) (other_places is i us none)
    go false e again = later (list_any (is_from u) is) again

-- ---- Pipes

pub apart_more : (us : List ℕ) (last : ℕ) → ((q : ℕ) → has us q ≡ true → q ≤ last) → AreDistinct us → AreDistinct (us ++ (last + 1) ∷ [])
apart_more [] last h d = (refl, tt)
apart_more (u ∷ us) last h d = (absent (has (us ++ (last + 1) ∷ []) u) refl, apart_more us last (λ q k. h q (ap (λ (b : Bool). (u == q) || b) k ∙ or_true (u == q))) d.1)
  where
    or_true : (a : Bool) → (a || true) ≡ true
    or_true true = refl
    or_true false = refl

    same : (n : ℕ) → (n == n) ≡ true
    same n = grind (arith, nat_tests)

    above : (n m : ℕ) → n ≤ m → (m + 1 == n) ≡ false
    above n m l = grind (arith, nat_tests)

    absent : (b : Bool) → has (us ++ (last + 1) ∷ []) u ≡ b → has (us ++ (last + 1) ∷ []) u ≡ false
    absent b e =
        let low : u ≤ last = h u (ap (λ (x : Bool). x || has us u) (same u)) in
        has_append us (last + 1) u ∙ ap (λ (x : Bool). x || ((last + 1 == u) || false)) d.0 ∙ ap (λ (x : Bool). x || false) (above u last low)

pub apart_without : (us : List ℕ) (p : ℕ) → AreDistinct us → AreDistinct (without us p)
apart_without [] p d = tt
apart_without (u ∷ us) p d = go (u == p) (apart_without us p d.1)
  where
    none : (b : Bool) → has (without us p) u ≡ b → b ≡ false
    none true e = let k : true ≡ false = sym (has_without us p u e) ∙ d.0 in absurd cc
    none false e = refl

    go : (b : Bool) → AreDistinct (without us p) → AreDistinct (cond (not b) (u ∷ without us p) (without us p))
    go true k = k
    go false k = (none _ refl, k)
