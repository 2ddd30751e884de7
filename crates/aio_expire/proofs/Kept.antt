-- All rings, before and after.
use Rattle.std.proofs.Common.{◌≡◌, ℕ, ◌+◌, ◌*◌, ◌<◌, ◌≤◌, Bool, true, false, cond, ◌⊎◌, inl, inr, List, [], ◌∷◌, Option, Some, None, length, get_or, set, refl, sym, ap, subst, ◌∙◌, arith}
use Rattle.std.specs.Prelude.{◌==◌, nat_lt, slice_get, drop}
use Rattle.std.proofs.lemmas.List.{get_or-set_same, get_or-set_other, length-set, get_or-map, get_or-drop, length-drop, length-map, get_or_past}
use Rattle.std.proofs.lemmas.Bool.Decides.{nat_tests}
use Rattle.aio_expire.specs.Buckets.{one_if, count_in, but, after, walk, ring, rings, list_at, joined_at, Links, AreRings}
use Rattle.aio_expire.proofs.Rings.{count-same, but-none, links-kept, prev-in, next-in, below, same, differs}
use Rattle.aio_expire.proofs.Unlinking.{links-but}
use Rattle.aio_expire.proofs.Linking.{ring-is, none-above, links-joined}

pub but-le : (s y : ℕ) (xs : List ℕ) → count_in y (but s xs) ≤ count_in y xs
but-le s y [] = omega arith
but-le s y (x ∷ xs) =
    let rest = but-le s y xs in
    elim (x == s) as (λ b. count_in y (cond b (but s xs) (x ∷ but s xs)) ≤ one_if (x == y) + count_in y xs) [ true ↦ omega (arith, rest) | false ↦ omega (arith, rest) ]

-- a place that is the head of a ring or in it is in no other
module _ (n : ℕ) (nx pv : List ℕ) (r : AreRings n nx pv) (b c : ℕ) (lb : b < 513) (lc : c < 513) (ne : b ≡ c → ⊥) where
  pub elsewhere : (i : ℕ) → (i ≡ n + b) ⊎ (0 < count_in i (ring nx n (n + b))) → (n + c ≡ i → ⊥) × (count_in i (ring nx n (n + c)) ≡ 0)
  elsewhere i (inl e) = (
    λ h. ne (let k : n + c ≡ n + b = h ∙ e in omega (arith, k)),
    none-above nx pv n (n + c) (n + c) (ring nx n (n + c)) i (r.linked c lc) (omega (arith, e)),
  )
  elsewhere i (inr h) = (
    λ k. let lt = below nx pv n (n + b) (n + b) (ring nx n (n + b)) i (r.linked b lb) h in absurd (omega (arith, lt, k)),
    let a = r.apart i b c lb lc ne in omega (arith, a, h),
  )

-- rings that are as stated keep what holds of rings
settled : (n : ℕ) (nx' pv' : List ℕ) (f : ℕ → List ℕ) → length nx' ≡ n + 513 → length pv' ≡ n + 513
    → ((c : ℕ) → c < 513 → Links nx' pv' n (n + c) (n + c) (f c)) → ((s c : ℕ) → c < 513 → count_in s (f c) ≤ 1)
    → ((s c d : ℕ) → c < 513 → d < 513 → (c ≡ d → ⊥) → count_in s (f c) + count_in s (f d) ≤ 1)
    → AreRings n nx' pv' × ((c : ℕ) → c < 513 → ring nx' n (n + c) ≡ f c)
settled n nx' pv' f ln lp links once apart =
    let is : (c : ℕ) → c < 513 → ring nx' n (n + c) ≡ f c = λ c l. ring-is nx' pv' n (n + c) (f c) (omega arith) (links c l) (λ s. once s c l) in (
      record {
        next_length = ln;
        prev_length = lp;
        linked = λ c l. subst (λ xs. Links nx' pv' n (n + c) (n + c) xs) (sym (is c l)) (links c l);
        once = λ s c l. subst (λ xs. count_in s xs ≤ 1) (sym (is c l)) (once s c l);
        apart = λ s c d lc ld ne. subst (λ xs. count_in s xs + count_in s (ring nx' n (n + d)) ≤ 1) (sym (is c lc)) (subst (λ xs. count_in s (f c) + count_in s xs ≤ 1) (sym (is d ld)) (apart s c d lc ld ne));
      },
      is,
    )

same_or : (b c : ℕ) → (b ≡ c) ⊎ (b ≡ c → ⊥)
same_or b c = elim (b == c) as (λ t. (b == c) ≡ t → (b ≡ c) ⊎ (b ≡ c → ⊥)) [ true ↦ (λ h. inl (same b c h)) | false ↦ (λ h. inr (differs b c h)) ] refl

pub unlinked : (n : ℕ) (nx pv : List ℕ) (s b : ℕ) → AreRings n nx pv → b < 513 → 0 < count_in s (ring nx n (n + b))
    → let nx' = set nx (get_or pv s 0) (get_or nx s 0) in let pv' = set pv (get_or nx s 0) (get_or pv s 0) in
    AreRings n nx' pv' × ((c : ℕ) → c < 513 → ring nx' n (n + c) ≡ but s (ring nx n (n + c)))
unlinked n nx pv s b r lb h =
    let a = get_or pv s 0 in
    let z = get_or nx s 0 in
    let nx' = set nx a z in
    let pv' = set pv z a in
    let in_a : (a ≡ n + b) ⊎ (0 < count_in a (ring nx n (n + b))) = prev-in nx pv n (n + b) (n + b) (ring nx n (n + b)) s (r.linked b lb) h in
    let in_z : (z ≡ n + b) ⊎ (0 < count_in z (ring nx n (n + b))) = next-in nx pv n (n + b) (n + b) (ring nx n (n + b)) s (r.linked b lb) h in
    let lt_of : (i : ℕ) → (i ≡ n + b) ⊎ (0 < count_in i (ring nx n (n + b))) → i < n + 513 = λ i w. elim w [
      | inl e ↦ omega (arith, e, lb)
      | inr k ↦ let l = below nx pv n (n + b) (n + b) (ring nx n (n + b)) i (r.linked b lb) k in omega (arith, l)
    ] in
    let la : a < length nx = let x = lt_of a in_a in let y = r.next_length in omega (arith, x, y) in
    let lz : z < length pv = let x = lt_of z in_z in let y = r.prev_length in omega (arith, x, y) in
    let sn : (j : ℕ) → (j ≡ a → ⊥) → get_or nx' j 0 ≡ get_or nx j 0 = λ j ne. get_or-set_other nx a j z 0 ne in
    let sp : (j : ℕ) → (j ≡ z → ⊥) → get_or pv' j 0 ≡ get_or pv j 0 = λ j ne. get_or-set_other pv z j a 0 ne in
    let links : (c : ℕ) → c < 513 → Links nx' pv' n (n + c) (n + c) (but s (ring nx n (n + c))) = λ c lc.
    elim (same_or b c) [
      | inl e ↦ subst (λ (c : ℕ). Links nx' pv' n (n + c) (n + c) (but s (ring nx n (n + c)))) e
          (links-but nx pv nx' pv' n (n + b) s sn (get_or-set_same nx a z 0 la) sp (get_or-set_same pv z a 0 lz) (omega arith) (n + b) (ring nx n (n + b)) (r.linked b lb) (λ x. r.once x b lb)
          (none-above nx pv n (n + b) (n + b) (ring nx n (n + b)) (n + b) (r.linked b lb) (omega arith)) h)
      | inr ne ↦
          let ea = elsewhere n nx pv r b c lb lc ne a in_a in
          let ez = elsewhere n nx pv r b c lb lc ne z in_z in
          let none : count_in s (ring nx n (n + c)) ≡ 0 = let w = r.apart s b c lb lc ne in omega (arith, w, h) in
          subst (λ xs. Links nx' pv' n (n + c) (n + c) xs) (sym (but-none s (ring nx n (n + c)) none))
          (links-kept nx pv nx' pv' a z sn sp n (n + c) (n + c) (ring nx n (n + c)) ea.0 ez.0 ea.1 ez.1 (r.linked c lc))
    ] in
    settled n nx' pv' (λ c. but s (ring nx n (n + c))) (length-set nx a z ∙ r.next_length) (length-set pv z a ∙ r.prev_length) links
    (λ y c l. let x = but-le s y (ring nx n (n + c)) in let o = r.once y c l in omega (arith, x, o))
    (λ y c d lc ld ne. let x = but-le s y (ring nx n (n + c)) in let w = but-le s y (ring nx n (n + d)) in let o = r.apart y c d lc ld ne in omega (arith, x, w, o))

pub joined-count : (y s b c : ℕ) (xs : List ℕ) → count_in y (joined_at s b c xs) ≡ one_if (c == b) * one_if (s == y) + count_in y xs
joined-count y s b c xs = elim (c == b) as (λ t. count_in y (cond t (s ∷ xs) xs) ≡ one_if t * one_if (s == y) + count_in y xs) [ true ↦ omega arith | false ↦ omega arith ]

pub linked : (n : ℕ) (nx pv : List ℕ) (s b : ℕ) → AreRings n nx pv → b < 513 → s < n → ((c : ℕ) → c < 513 → count_in s (ring nx n (n + c)) ≡ 0)
    → let nx1 = set nx s (get_or nx (n + b) 0) in let pv1 = set pv s (n + b) in
    let nx' = set nx1 (n + b) s in let pv' = set pv1 (get_or nx (n + b) 0) s in
    AreRings n nx' pv' × ((c : ℕ) → c < 513 → ring nx' n (n + c) ≡ joined_at s b c (ring nx n (n + c)))
linked n nx pv s b r lb ls free =
    let h = n + b in
    let z = get_or nx h 0 in
    let nx1 = set nx s z in
    let pv1 = set pv s h in
    let nx' = set nx1 h s in
    let pv' = set pv1 z s in
    let in_z : (z ≡ n + b) ⊎ (0 < count_in z (ring nx n (n + b))) = begins (ring nx n h) (r.linked b lb) in
    let lz0 : z < n + 513 = elim in_z [
      | inl e ↦ omega (arith, e, lb)
      | inr k ↦ let l = below nx pv n h h (ring nx n h) z (r.linked b lb) k in omega (arith, l)
    ] in
    let nl = r.next_length in
    let pl = r.prev_length in
    let n1 = length-set nx s z in
    let p1 = length-set pv s h in
    let s_nx : s < length nx = omega (arith, nl, ls) in
    let s_pv : s < length pv = omega (arith, pl, ls) in
    let h_nx : h < length nx1 = omega (arith, nl, n1, lb) in
    let z_pv : z < length pv1 = omega (arith, pl, p1, lz0) in
    let sn1 : (j : ℕ) → (j ≡ s → ⊥) → get_or nx1 j 0 ≡ get_or nx j 0 = λ j ne. get_or-set_other nx s j z 0 ne in
    let sp1 : (j : ℕ) → (j ≡ s → ⊥) → get_or pv1 j 0 ≡ get_or pv j 0 = λ j ne. get_or-set_other pv s j h 0 ne in
    let first : (c : ℕ) → c < 513 → Links nx1 pv1 n (n + c) (n + c) (ring nx n (n + c)) = λ c lc.
    let no_head : n + c ≡ s → ⊥ = λ e. absurd (omega (arith, e, ls)) in
    links-kept nx pv nx1 pv1 s s sn1 sp1 n (n + c) (n + c) (ring nx n (n + c)) no_head no_head (free c lc) (free c lc) (r.linked c lc) in
    let h_s : h ≡ s → ⊥ = λ e. absurd (omega (arith, e, ls)) in
    let same_z : get_or nx1 h 0 ≡ z = sn1 h h_s in
    let sn : (j : ℕ) → (j ≡ h → ⊥) → get_or nx' j 0 ≡ get_or nx1 j 0 = λ j ne. get_or-set_other nx1 h j s 0 ne in
    let sp : (j : ℕ) → (j ≡ z → ⊥) → get_or pv' j 0 ≡ get_or pv1 j 0 = λ j ne. get_or-set_other pv1 z j s 0 ne in
    let links : (c : ℕ) → c < 513 → Links nx' pv' n (n + c) (n + c) (joined_at s b c (ring nx n (n + c))) = λ c lc.
    elim (c == b) as (λ t. (c == b) ≡ t → Links nx' pv' n (n + c) (n + c) (cond t (s ∷ ring nx n (n + c)) (ring nx n (n + c)))) [
      | true ↦ (λ e. subst (λ (c : ℕ). Links nx' pv' n (n + c) (n + c) (s ∷ ring nx n (n + c))) (sym (same c b e))
          (links-joined nx1 pv1 nx' pv' n h s sn (get_or-set_same nx1 h s 0 h_nx)
          (λ j ne. sp j (λ i. ne (i ∙ sym same_z))) (ap (λ (i : ℕ). get_or pv' i 0) same_z ∙ get_or-set_same pv1 z s 0 z_pv) (omega arith) ls
          (get_or-set_same nx s z 0 s_nx ∙ sym same_z) (get_or-set_same pv s h 0 s_pv) (ring nx n h) (first b lb) (λ x. r.once x b lb) (free b lb)))
      | false ↦ (λ e.
          let ne : b ≡ c → ⊥ = λ i. differs c b e (sym i) in
          let eh = elsewhere n nx pv r b c lb lc ne h (inl refl) in
          let ez = elsewhere n nx pv r b c lb lc ne z in_z in
          links-kept nx1 pv1 nx' pv' h z sn sp n (n + c) (n + c) (ring nx n (n + c)) eh.0 ez.0 eh.1 ez.1 (first c lc))
    ] refl in
    settled n nx' pv' (λ c. joined_at s b c (ring nx n (n + c))) (length-set nx1 h s ∙ n1 ∙ r.next_length) (length-set pv1 z s ∙ p1 ∙ r.prev_length) links once apart
  where
    begins : (xs : List ℕ) → Links nx pv n (n + b) (n + b) xs → (get_or nx (n + b) 0 ≡ n + b) ⊎ (0 < count_in (get_or nx (n + b) 0) xs)
    begins [] l = inl l.0
    begins (x ∷ xs) l = inr (let c = count-same (get_or nx (n + b) 0) x xs (sym l.0) in omega (arith, c))

    one_slot : (y c : ℕ) → c < 513 → one_if (s == y) + count_in y (ring nx n (n + c)) ≤ 1
    one_slot y c lc = elim (s == y) as (λ t. (s == y) ≡ t → one_if t + count_in y (ring nx n (n + c)) ≤ 1) [
      | true ↦ (λ e. let z : count_in y (ring nx n (n + c)) ≡ 0 = subst (λ (i : ℕ). count_in i (ring nx n (n + c)) ≡ 0) (same s y e) (free c lc) in omega (arith, z))
      | false ↦ (λ e. let o = r.once y c lc in omega (arith, o))
    ] refl

    once : (y c : ℕ) → c < 513 → count_in y (joined_at s b c (ring nx n (n + c))) ≤ 1
    once y c lc = elim (c == b) as (λ t. count_in y (cond t (s ∷ ring nx n (n + c)) (ring nx n (n + c))) ≤ 1) [ true ↦ one_slot y c lc | false ↦ r.once y c lc ]

    apart : (y c d : ℕ) → c < 513 → d < 513 → (c ≡ d → ⊥) → count_in y (joined_at s b c (ring nx n (n + c))) + count_in y (joined_at s b d (ring nx n (n + d))) ≤ 1
    apart y c d lc ld ne =
        let jc = joined-count y s b c (ring nx n (n + c)) in
        let jd = joined-count y s b d (ring nx n (n + d)) in
        let cd = r.apart y c d lc ld ne in
        let not_both : one_if (c == b) + one_if (d == b) ≤ 1 = elim (c == b) as (λ t. (c == b) ≡ t → one_if t + one_if (d == b) ≤ 1) [
          | true ↦ (λ e. let x : (d == b) ≡ false = differ d b (λ i. ne (same c b e ∙ sym i)) in rw x (omega arith))
          | false ↦ (λ e. at_most (d == b))
        ] refl in
        elim (s == y) as (λ t. (s == y) ≡ t → count_in y (joined_at s b c (ring nx n (n + c))) ≡ one_if (c == b) * one_if t + count_in y (ring nx n (n + c)) → count_in y (joined_at s b d (ring nx n (n + d))) ≡ one_if (d == b) * one_if t + count_in y (ring nx n (n + d))
        → count_in y (joined_at s b c (ring nx n (n + c))) + count_in y (joined_at s b d (ring nx n (n + d))) ≤ 1) [
          | true ↦ (λ e u v.
              let zc : count_in y (ring nx n (n + c)) ≡ 0 = subst (λ (i : ℕ). count_in i (ring nx n (n + c)) ≡ 0) (same s y e) (free c lc) in
              let zd : count_in y (ring nx n (n + d)) ≡ 0 = subst (λ (i : ℕ). count_in i (ring nx n (n + d)) ≡ 0) (same s y e) (free d ld) in
              sum3 _ _ (one_if (c == b)) (one_if (d == b)) (u ∙ times (one_if (c == b)) _ zc) (v ∙ times (one_if (d == b)) _ zd) not_both)
          | false ↦ (λ e u v. let p : count_in y (joined_at s b c (ring nx n (n + c))) ≡ count_in y (ring nx n (n + c)) = u ∙ omega arith in
              let q : count_in y (joined_at s b d (ring nx n (n + d))) ≡ count_in y (ring nx n (n + d)) = v ∙ omega arith in omega (arith, p, q, cd))
        ] refl jc jd
      where
        sum3 : (x y i j : ℕ) → x ≡ i → y ≡ j → i + j ≤ 1 → x + y ≤ 1
        sum3 x y i j p q h = omega arith

        times : (i k : ℕ) → k ≡ 0 → i * 1 + k ≡ i
        times i k h = omega arith

        at_most : (t : Bool) → 0 + one_if t ≤ 1
        at_most true = omega arith
        at_most false = omega arith

        differ : (x y : ℕ) → (x ≡ y → ⊥) → (x == y) ≡ false
        differ x y h = elim (x == y) as (λ t. (x == y) ≡ t → t ≡ false) [ true ↦ (λ e. absurd (h (same x y e))) | false ↦ (λ e. refl) ] refl

abbrev none_slot : Option ℕ
none_slot = None

-- the next slot, as the links have it
pub after-is : (nx pv : List ℕ) (n e f : ℕ) (xs : List ℕ) (s : ℕ) → n ≤ e → Links nx pv n e f xs → 0 < count_in s xs → after s xs ≡ cond (nat_lt (get_or nx s 0) n) (Some (get_or nx s 0)) None
after-is nx pv n e f [] s o l h = absurd (omega arith)
after-is nx pv n e f (x ∷ xs) s o l h =
    elim (x == s) as (λ t. (x == s) ≡ t → 0 < one_if t + count_in s xs → cond t (slice_get xs 0) (after s xs) ≡ cond (nat_lt (get_or nx s 0) n) (Some (get_or nx s 0)) None) [
      | true ↦ (λ q k. subst (λ (i : ℕ). slice_get xs 0 ≡ cond (nat_lt (get_or nx i 0) n) (Some (get_or nx i 0)) None) (same x s q) (begins xs x l.3))
      | false ↦ (λ q k. after-is nx pv n e x xs s o l.3 (omega arith))
    ] refl h
  where
    begins : (ys : List ℕ) (i : ℕ) → Links nx pv n e i ys → slice_get ys 0 ≡ cond (nat_lt (get_or nx i 0) n) (Some (get_or nx i 0)) None
    begins [] i l =
        let none : nat_lt e n ≡ false = grind (arith, nat_tests) in
        subst (λ (j : ℕ). none_slot ≡ cond (nat_lt j n) (Some j) None) (sym l.0) (rw none refl)
    begins (y ∷ ys) i l =
        let lt = l.1 in
        let some_ : nat_lt y n ≡ true = grind (arith, nat_tests) in
        subst (λ (j : ℕ). Some y ≡ cond (nat_lt j n) (Some j) None) (sym l.0) (rw some_ refl)

-- the first slot of a ring, as the links have it
pub first-is : (nx pv : List ℕ) (n e f : ℕ) (xs : List ℕ) → n ≤ e → Links nx pv n e f xs → slice_get xs 0 ≡ cond (nat_lt (get_or nx f 0) n) (Some (get_or nx f 0)) None
first-is nx pv n e f [] o l =
    let none : nat_lt e n ≡ false = grind (arith, nat_tests) in
    subst (λ (j : ℕ). none_slot ≡ cond (nat_lt j n) (Some j) None) (sym l.0) (rw none refl)
first-is nx pv n e f (y ∷ ys) o l =
    let lt = l.1 in
    let some_ : nat_lt y n ≡ true = grind (arith, nat_tests) in
    subst (λ (j : ℕ). Some y ≡ cond (nat_lt j n) (Some j) None) (sym l.0) (rw some_ refl)

-- links that lead from each place to itself are empty rings
pub made : (n : ℕ) (nx pv : List ℕ) → length nx ≡ n + 513 → length pv ≡ n + 513 → ((k : ℕ) → k < n + 513 → get_or nx k 0 ≡ k) → ((k : ℕ) → k < n + 513 → get_or pv k 0 ≡ k) → AreRings n nx pv × ((c : ℕ) → c < 513 → ring nx n (n + c) ≡ [])
made n nx pv ln lp hn hp =
    settled n nx pv (λ c. []) ln lp (λ c l. (hn (n + c) (omega (arith, l)), hp (n + c) (omega (arith, l)))) (λ s c l. omega arith) (λ s c d lc ld ne. omega arith)

-- each list of the rings
pub list-is : (n : ℕ) (nx : List ℕ) (c : ℕ) → length nx ≡ n + 513 → c < 513 → list_at c (rings n nx) ≡ ring nx n (n + c)
list-is n nx c l lc =
    let d : length (drop n nx) ≡ 513 = length-drop n nx ∙ omega (arith, l) in
    get_or-map (walk n nx n) (drop n nx) c 0 [] (omega (arith, d, lc)) ∙ ap (walk n nx n) (get_or-drop n nx c 0)

pub list-past : (n : ℕ) (nx : List ℕ) (c : ℕ) → length nx ≡ n + 513 → 513 ≤ c → list_at c (rings n nx) ≡ []
list-past n nx c l lc =
    get_or_past (rings n nx) c [] (omega (arith, length-map (drop n nx) (walk n nx n), length-drop n nx, l, lc))
