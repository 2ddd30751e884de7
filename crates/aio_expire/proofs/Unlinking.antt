-- A slot leaves its ring.
use Rattle.std.proofs.Common.{◌≡◌, ℕ, ◌+◌, ◌<◌, ◌≤◌, true, false, cond, inl, inr, List, [], ◌∷◌, get_or, refl, sym, ap, subst, ◌∙◌, arith}
use Rattle.std.specs.Prelude.{◌==◌}
use Rattle.aio_expire.specs.Buckets.{count_in, but, Links}
use Rattle.aio_expire.proofs.Rings.{count-other, count-same, but-none, prev-in, next-in, links-kept, same}

-- what follows the slot is linked to what is before it
pub links-but : (nx pv nx' pv' : List ℕ) (n e s : ℕ)
    → ((j : ℕ) → (j ≡ get_or pv s 0 → ⊥) → get_or nx' j 0 ≡ get_or nx j 0) → get_or nx' (get_or pv s 0) 0 ≡ get_or nx s 0
    → ((j : ℕ) → (j ≡ get_or nx s 0 → ⊥) → get_or pv' j 0 ≡ get_or pv j 0) → get_or pv' (get_or nx s 0) 0 ≡ get_or pv s 0
    → n ≤ e → (f : ℕ) (xs : List ℕ) → Links nx pv n e f xs → ((x : ℕ) → count_in x xs ≤ 1) → count_in f xs ≡ 0 → 0 < count_in s xs
    → Links nx' pv' n e f (but s xs)
links-but nx pv nx' pv' n e s sn an sp ap_ o f [] l once nf h = absurd (omega arith)
links-but nx pv nx' pv' n e s sn an sp ap_ o f (x ∷ xs) l once nf h =
    elim (x == s) as (λ b. (x == s) ≡ b → cond b 1 0 + count_in s xs ≤ 1 → 0 < cond b 1 0 + count_in s xs → Links nx' pv' n e f (cond b (but s xs) (x ∷ but s xs))) [
      | true ↦ (λ q u k.
          let r : x ≡ s = same x s q in
          let none : count_in s xs ≡ 0 = omega (arith, u) in
          let before : get_or pv s 0 ≡ f = ap (λ (i : ℕ). get_or pv i 0) (sym r) ∙ l.2 in
          let inner : Links nx pv n e s xs = subst (λ (i : ℕ). Links nx pv n e i xs) r l.3 in
          rw (but-none s xs none) (found f before xs (count-other f x xs nf).1 inner (λ y. omega (arith, once y, count_le y))))
      | false ↦ (λ q u k.
          let inside : 0 < count_in s xs = omega (arith, k) in
          let nx_ = count-other f x xs nf in
          let f_kept : f ≡ get_or pv s 0 → ⊥ = λ i. elim (prev-in nx pv n e x xs s l.3 inside) [
            | inl p ↦ nx_.0 (sym (i ∙ p))
            | inr p ↦ absurd (let z : count_in f xs ≡ 0 = nx_.1 in let w : 0 < count_in f xs = subst (λ (y : ℕ). 0 < count_in y xs) (sym i) p in omega (arith, z, w))
          ] in
          let none_x : count_in x xs ≡ 0 = let c = count-same x x xs refl in let u = once x in omega (arith, c, u) in
          let x_kept : x ≡ get_or nx s 0 → ⊥ = λ i. elim (next-in nx pv n e x xs s l.3 inside) [
            | inl p ↦ absurd (let j : x ≡ e = i ∙ p in let lt = l.1 in omega (arith, j, lt, o))
            | inr p ↦ absurd (let w : 0 < count_in x xs = subst (λ (y : ℕ). 0 < count_in y xs) (sym i) p in omega (arith, none_x, w))
          ] in
          (sn f f_kept ∙ l.0, l.1, sp x x_kept ∙ l.2, links-but nx pv nx' pv' n e s sn an sp ap_ o x xs l.3 (λ y. omega (arith, once y, count_le y)) none_x inside))
    ] refl (once s) h
  where
    count_le : (y : ℕ) → count_in y xs ≤ count_in y (x ∷ xs)
    count_le y = omega arith

    found : (f : ℕ) → get_or pv s 0 ≡ f → (ys : List ℕ) → count_in f ys ≡ 0 → Links nx pv n e s ys → ((y : ℕ) → count_in y ys ≤ 1) → Links nx' pv' n e f ys
    found f before [] nf k u = (ap (λ (i : ℕ). get_or nx' i 0) (sym before) ∙ an ∙ k.0, ap (λ (i : ℕ). get_or pv' i 0) (sym k.0) ∙ ap_ ∙ before)
    found f before (y ∷ ys) nf k u =
        let q = count-other f y ys nf in
        let none_y : count_in y ys ≡ 0 = let c = count-same y y ys refl in let v = u y in omega (arith, c, v) in (
          ap (λ (i : ℕ). get_or nx' i 0) (sym before) ∙ an ∙ k.0,
          k.1,
          ap (λ (i : ℕ). get_or pv' i 0) (sym k.0) ∙ ap_ ∙ before,
          links-kept nx pv nx' pv' (get_or pv s 0) (get_or nx s 0) sn sp n e y ys
              (λ i. q.0 (i ∙ before)) (λ i. let j : e ≡ y = i ∙ k.0 in let lt = k.1 in absurd (omega (arith, j, lt, o)))
              (subst (λ (i : ℕ). count_in i ys ≡ 0) (sym before) q.1) (subst (λ (i : ℕ). count_in i ys ≡ 0) (sym k.0) none_y) k.3,
        )
