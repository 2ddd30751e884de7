-- The links of the rings.
use Rattle.std.proofs.Common.{◌≡◌, ℕ, zero, suc, ◌+◌, ◌<◌, ◌≤◌, true, false, cond, ◌⊎◌, inl, inr, List, [], ◌∷◌, length, get_or, refl, sym, ap, subst, ◌∙◌, arith}
use Rattle.std.specs.Prelude.{◌==◌, nat_lt}
use Rattle.std.proofs.lemmas.Bool.Decides.{nat_tests}
use Rattle.aio_expire.specs.Buckets.{count_in, but, walk, Links}

-- ---- Lists of numbers

pub count-other : (s x : ℕ) (xs : List ℕ) → count_in s (x ∷ xs) ≡ 0 → (x ≡ s → ⊥) × (count_in s xs ≡ 0)
count-other s x xs h = ((λ e. absurd (grind (arith, nat_tests))), grind (arith, nat_tests))

pub count-same : (s x : ℕ) (xs : List ℕ) → x ≡ s → count_in s (x ∷ xs) ≡ 1 + count_in s xs
count-same s x xs e = grind (arith, nat_tests)

pub count-not : (s x : ℕ) (xs : List ℕ) → (x == s) ≡ false → count_in s (x ∷ xs) ≡ count_in s xs
count-not s x xs e = rw e (omega arith)

pub same : (x s : ℕ) → (x == s) ≡ true → x ≡ s
same x s h = grind (arith, nat_tests)

pub differs : (x s : ℕ) → (x == s) ≡ false → x ≡ s → ⊥
differs x s h e = grind (arith, nat_tests)

pub but-none : (s : ℕ) (xs : List ℕ) → count_in s xs ≡ 0 → but s xs ≡ xs
but-none s [] h = refl
but-none s (x ∷ xs) h =
    elim (x == s) as (λ b. (x == s) ≡ b → cond b 1 0 + count_in s xs ≡ 0 → cond b (but s xs) (x ∷ but s xs) ≡ x ∷ xs)
    [ true ↦ (λ e z. absurd (omega arith)) | false ↦ (λ e z. ap (λ l. x ∷ l) (but-none s xs (omega arith))) ] refl h

-- ---- Links

-- they lead to a slot from the one before it in the list, or from where they begin
pub prev-in : (nx pv : List ℕ) (n e f : ℕ) (xs : List ℕ) (s : ℕ) → Links nx pv n e f xs → 0 < count_in s xs → (get_or pv s 0 ≡ f) ⊎ (0 < count_in (get_or pv s 0) xs)
prev-in nx pv n e f [] s l h = absurd (omega arith)
prev-in nx pv n e f (x ∷ xs) s l h =
    elim (x == s) as (λ b. (x == s) ≡ b → 0 < cond b 1 0 + count_in s xs → (get_or pv s 0 ≡ f) ⊎ (0 < count_in (get_or pv s 0) (x ∷ xs))) [
      | true ↦ (λ q k. inl (ap (λ (i : ℕ). get_or pv i 0) (sym (same x s q)) ∙ l.2))
      | false ↦ (λ q k. elim (prev-in nx pv n e x xs s l.3 (omega arith)) [
        | inl p ↦ inr (let c = count-same (get_or pv s 0) x xs (sym p) in omega (arith, c))
        | inr p ↦ inr (omega (arith, p))
      ])
    ] refl h

-- and from a slot to one of the list, or to the head
pub next-in : (nx pv : List ℕ) (n e f : ℕ) (xs : List ℕ) (s : ℕ) → Links nx pv n e f xs → 0 < count_in s xs → (get_or nx s 0 ≡ e) ⊎ (0 < count_in (get_or nx s 0) xs)
next-in nx pv n e f [] s l h = absurd (omega arith)
next-in nx pv n e f (x ∷ xs) s l h =
    elim (x == s) as (λ b. (x == s) ≡ b → 0 < cond b 1 0 + count_in s xs → (get_or nx s 0 ≡ e) ⊎ (0 < count_in (get_or nx s 0) (x ∷ xs))) [
      | true ↦ (λ q k. subst (λ (i : ℕ). (get_or nx i 0 ≡ e) ⊎ (0 < count_in (get_or nx i 0) (x ∷ xs))) (same x s q) (first xs l.3))
      | false ↦ (λ q k. elim (next-in nx pv n e x xs s l.3 (omega arith)) [
        | inl p ↦ inl p
        | inr p ↦ inr (omega (arith, p))
      ])
    ] refl h
  where
    first : (ys : List ℕ) → Links nx pv n e x ys → (get_or nx x 0 ≡ e) ⊎ (0 < count_in (get_or nx x 0) (x ∷ ys))
    first [] k = inl k.0
    first (y ∷ ys) k = inr (let c = count-same (get_or nx x 0) y ys (sym k.0) in omega (arith, c))

-- a change at one place of each list keeps links that don't touch it
pub links-kept : (nx pv nx' pv' : List ℕ) (a z : ℕ) → ((j : ℕ) → (j ≡ a → ⊥) → get_or nx' j 0 ≡ get_or nx j 0) → ((j : ℕ) → (j ≡ z → ⊥) → get_or pv' j 0 ≡ get_or pv j 0)
    → (n e f : ℕ) (xs : List ℕ) → (f ≡ a → ⊥) → (e ≡ z → ⊥) → count_in a xs ≡ 0 → count_in z xs ≡ 0 → Links nx pv n e f xs → Links nx' pv' n e f xs
links-kept nx pv nx' pv' a z sn sp n e f [] fa ez ca cz l = (sn f fa ∙ l.0, sp e ez ∙ l.1)
links-kept nx pv nx' pv' a z sn sp n e f (x ∷ xs) fa ez ca cz l =
    let p = count-other a x xs ca in
    let q = count-other z x xs cz in
    (sn f fa ∙ l.0, l.1, sp x q.0 ∙ l.2, links-kept nx pv nx' pv' a z sn sp n e x xs p.0 ez p.1 q.1 l.3)

pub below : (nx pv : List ℕ) (n e f : ℕ) (xs : List ℕ) (s : ℕ) → Links nx pv n e f xs → 0 < count_in s xs → s < n
below nx pv n e f [] s l h = absurd (omega arith)
below nx pv n e f (x ∷ xs) s l h =
    elim (x == s) as (λ b. (x == s) ≡ b → 0 < cond b 1 0 + count_in s xs → s < n)
    [ true ↦ (λ q k. let r = same x s q in omega (arith, r, l.1)) | false ↦ (λ q k. below nx pv n e x xs s l.3 (omega arith)) ] refl h

-- the links lead over their slots
pub walked : (nx pv : List ℕ) (n e f k : ℕ) (xs : List ℕ) → n ≤ e → Links nx pv n e f xs → length xs ≤ k → walk k nx n (get_or nx f 0) ≡ xs
walked nx pv n e f zero [] o l h = refl
walked nx pv n e f (suc k) [] o l h =
    let no : nat_lt (get_or nx f 0) n ≡ false = subst (λ (i : ℕ). nat_lt i n ≡ false) (sym l.0) (grind (arith, nat_tests)) in
    rw no refl
walked nx pv n e f zero (x ∷ xs) o l h = absurd (omega arith)
walked nx pv n e f (suc k) (x ∷ xs) o l h =
    let yes_ : nat_lt x n ≡ true = let lt = l.1 in grind (arith, nat_tests) in
    let rest = walked nx pv n e x k xs o l.3 (omega (arith, h)) in
    subst (λ (i : ℕ). walk (suc k) nx n i ≡ x ∷ xs) (sym l.0) (rw yes_ (ap (λ ys. x ∷ ys) rest))
