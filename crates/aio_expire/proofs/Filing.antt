-- Entries by slot and the lists that they are in.
use Rattle.std.proofs.Common.{◌≡◌, ℕ, ◌+◌, ◌*◌, ◌<◌, ◌%◌, ◌/◌, Bool, true, false, cond, ◌⊎◌, inl, inr, List, [], ◌∷◌, Option, Some, None, length, set, refl, sym, ap, subst, ◌∙◌, arith}
use Rattle.std.specs.Prelude.{◌==◌, nat_le, slice_get}
use Rattle.std.proofs.lemmas.List.{get_or-set_same, get_or-set_other}
use Rattle.std.proofs.lemmas.Bool.Decides.{nat_tests}
use Rattle.aio_expire.specs.declared.deadlines.Deadline.{Deadline}
use Rattle.aio_expire.specs.Buckets.{one_if, count_in, but, list_at, joined_at, IsListed}
use Rattle.aio_expire.specs.SlotEntries.{cell_at, bucket_of, belongs, AreOwn, AreFiled}
use Rattle.aio_expire.proofs.Rings.{same, differs}
use Rattle.aio_expire.proofs.Kept.{joined-count}

-- ---- Numbers and lists

pub equal_or : (x y : ℕ) → (x ≡ y) ⊎ (x ≡ y → ⊥)
equal_or x y = elim (x == y) as (λ t. (x == y) ≡ t → (x ≡ y) ⊎ (x ≡ y → ⊥)) [ true ↦ (λ h. inl (same x y h)) | false ↦ (λ h. inr (differs x y h)) ] refl

test-sym : (x y : ℕ) → (x == y) ≡ (y == x)
test-sym x y = grind (arith, nat_tests)

test-self : (x : ℕ) → (x == x) ≡ true
test-self x = grind (arith, nat_tests)

test-not : (x y : ℕ) → (x ≡ y → ⊥) → (x == y) ≡ false
test-not x y h = elim (x == y) as (λ t. (x == y) ≡ t → t ≡ false) [ true ↦ (λ e. absurd (h (same x y e))) | false ↦ (λ e. refl) ] refl

but-count-same : (s : ℕ) (xs : List ℕ) → count_in s (but s xs) ≡ 0
but-count-same s [] = refl
but-count-same s (x ∷ xs) = elim (x == s) as (λ t. (x == s) ≡ t → count_in s (cond t (but s xs) (x ∷ but s xs)) ≡ 0) [
  | true ↦ (λ e. but-count-same s xs)
  | false ↦ (λ e. rw e (omega (arith, but-count-same s xs)))
] refl

but-count-other : (s y : ℕ) (xs : List ℕ) → (y ≡ s → ⊥) → count_in y (but s xs) ≡ count_in y xs
but-count-other s y [] ne = refl
but-count-other s y (x ∷ xs) ne =
    let rest = but-count-other s y xs ne in
    elim (x == s) as (λ t. (x == s) ≡ t → count_in y (cond t (but s xs) (x ∷ but s xs)) ≡ one_if (x == y) + count_in y xs) [
      | true ↦ (λ e. let n : (x == y) ≡ false = test-not x y (λ i. ne (sym i ∙ same x s e)) in rw n (omega (arith, rest)))
      | false ↦ (λ e. omega (arith, rest))
    ] refl

pub first-some : (xs : List ℕ) (s : ℕ) → slice_get xs 0 ≡ Some s → 0 < count_in s xs
first-some [] s h = absurd (cc)
first-some (x ∷ xs) s h = let e : x ≡ s = cc in let t : (x == s) ≡ true = subst (λ (i : ℕ). (x == i) ≡ true) e (test-self x) in rw t (omega arith)

pub first-none : (xs : List ℕ) (s : ℕ) → slice_get xs 0 ≡ None → count_in s xs ≡ 0
first-none [] s h = refl
first-none (x ∷ xs) s h = absurd (cc)

-- ---- Buckets

three-below : (a b c : Bool) (x y z : ℕ) → x < 256 → y < 256 → z < 256 → cond a x (cond b y (cond c (256 + z) 512)) < 513
three-below true b c x y z h k l = omega arith
three-below false true c x y z h k l = omega arith
three-below false false true x y z h k l = omega arith
three-below false false false x y z h k l = omega arith

pub bucket-below : (m d : ℕ) → bucket_of m d < 513
bucket-below m d = three-below (nat_le d m) (d / 256 == m / 256) (d / 65536 == m / 65536) (m % 256) (d % 256) ((d / 256) % 256) (omega arith) (omega arith) (omega arith)

module _ (m : ℕ) (cells : List (Option Deadline)) (lists : List (List ℕ)) (f : AreFiled m cells lists) where
  -- a slot with an entry is in a list
  pub listed : (s : ℕ) (e : Deadline) → cell_at s cells ≡ Some e → IsListed s lists
  listed s e h =
      let b = bucket_of m e.at in
      let one : belongs m b (cell_at s cells) ≡ 1 = ap (belongs m b) h ∙ ap one_if (test-self b) in
      (b, bucket-below m e.at, let c = f b s in omega (arith, c, one))

  -- a slot without an entry is in no list
  pub unlisted : (s b : ℕ) → cell_at s cells ≡ None → count_in s (list_at b lists) ≡ 0
  unlisted s b h = f b s ∙ ap (belongs m b) h

  pub filed-put : (e : Deadline) (lists' : List (List ℕ)) → cell_at e.op.slot cells ≡ None → e.op.slot < length cells
      → ((b : ℕ) → list_at b lists' ≡ joined_at e.op.slot (bucket_of m e.at) b (list_at b lists)) → AreFiled m (set cells e.op.slot (Some e)) lists'
  filed-put e lists' free lt l b y =
      let s = e.op.slot in
      let k = bucket_of m e.at in
      let xs = list_at b lists in
      let count = ap (count_in y) (l b) ∙ joined-count y s k b xs in
      elim (equal_or s y) [
        | inl q ↦
            let one : one_if (s == y) ≡ 1 = ap one_if (subst (λ (i : ℕ). (s == i) ≡ true) q (test-self s)) in
            let none : count_in y xs ≡ 0 = subst (λ (i : ℕ). count_in i xs ≡ 0) q (unlisted s b free) in
            let here : belongs m b (cell_at y (set cells s (Some e))) ≡ one_if (k == b) = ap (belongs m b) (subst (λ (i : ℕ). cell_at i (set cells s (Some e)) ≡ Some e) q (get_or-set_same cells s (Some e) None lt)) in
            count ∙ times (one_if (b == k)) (one_if (s == y)) (count_in y xs) one none ∙ ap one_if (test-sym b k) ∙ sym here
        | inr ne ↦
            let zero_ : one_if (s == y) ≡ 0 = ap one_if (test-not s y ne) in
            let there : belongs m b (cell_at y (set cells s (Some e))) ≡ belongs m b (cell_at y cells) = ap (belongs m b) (get_or-set_other cells s y (Some e) None (λ i. ne (sym i))) in
            count ∙ times_not (one_if (b == k)) (one_if (s == y)) (count_in y xs) zero_ ∙ f b y ∙ sym there
      ]
    where
      times : (i j c : ℕ) → j ≡ 1 → c ≡ 0 → i * j + c ≡ i
      times i j c p q = rw (p, q) (omega arith)

      times_not : (i j c : ℕ) → j ≡ 0 → i * j + c ≡ c
      times_not i j c p = rw p (omega arith)

  pub filed-take : (s : ℕ) (lists' : List (List ℕ)) → s < length cells → ((b : ℕ) → list_at b lists' ≡ but s (list_at b lists)) → AreFiled m (set cells s None) lists'
  filed-take s lists' lt l b y =
      let xs = list_at b lists in
      elim (equal_or y s) [
        | inl q ↦
            let here : belongs m b (cell_at y (set cells s None)) ≡ 0 = ap (belongs m b) (subst (λ (i : ℕ). cell_at i (set cells s None) ≡ None) (sym q) (get_or-set_same cells s None None lt)) in
            ap (count_in y) (l b) ∙ subst (λ (i : ℕ). count_in i (but s xs) ≡ 0) (sym q) (but-count-same s xs) ∙ sym here
        | inr ne ↦
            let there : belongs m b (cell_at y (set cells s None)) ≡ belongs m b (cell_at y cells) = ap (belongs m b) (get_or-set_other cells s y None None ne) in
            ap (count_in y) (l b) ∙ but-count-other s y xs ne ∙ f b y ∙ sym there
      ]

  pub filed-turn : (to : ℕ) → ((s : ℕ) (e : Deadline) → cell_at s cells ≡ Some e → bucket_of to e.at ≡ bucket_of m e.at) → AreFiled to cells lists
  filed-turn to h b s = f b s ∙ by_cell (cell_at s cells) (h s)
    where
      by_cell : (o : Option Deadline) → ((e : Deadline) → o ≡ Some e → bucket_of to e.at ≡ bucket_of m e.at) → belongs m b o ≡ belongs to b o
      by_cell None k = refl
      by_cell (Some e) k = ap (λ (i : ℕ). one_if (i == b)) (sym (k e refl))

-- ---- Own slots

pub own-put : (cells : List (Option Deadline)) (e : Deadline) → AreOwn cells → e.op.slot < length cells → AreOwn (set cells e.op.slot (Some e))
own-put cells e own lt y d h = elim (equal_or y e.op.slot) [
  | inl q ↦
      let same_ : Some e ≡ Some d = sym (subst (λ (i : ℕ). cell_at i (set cells e.op.slot (Some e)) ≡ Some e) (sym q) (get_or-set_same cells e.op.slot (Some e) None lt)) ∙ h in
      ap (λ (x : Deadline). x.op.slot) (sym (inside e d same_)) ∙ sym q
  | inr ne ↦ own y d (sym (get_or-set_other cells e.op.slot y (Some e) None ne) ∙ h)
]
  where
    inside : (x z : Deadline) → Some x ≡ Some z → x ≡ z
    inside x z i = cc

pub own-take : (cells : List (Option Deadline)) (s : ℕ) → AreOwn cells → s < length cells → AreOwn (set cells s None)
own-take cells s own lt y d h = elim (equal_or y s) [
  | inl q ↦ absurd (let z : None ≡ Some d = sym (subst (λ (i : ℕ). cell_at i (set cells s None) ≡ None) (sym q) (get_or-set_same cells s None None lt)) ∙ h in cc)
  | inr ne ↦ own y d (sym (get_or-set_other cells s y None None ne) ∙ h)
]
