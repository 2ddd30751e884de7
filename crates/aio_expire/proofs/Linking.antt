-- A slot joins a ring, after its head.
use Rattle.std.proofs.Common.{◌≡◌, ℕ, zero, suc, ◌+◌, ◌<◌, ◌≤◌, List, [], ◌∷◌, length, get_or, refl, sym, ap, subst, ◌∙◌, arith}
use Rattle.std.specs.Prelude.{◌==◌, nat_lt}
use Rattle.std.proofs.lemmas.Bool.Decides.{nat_tests}
use Rattle.aio_expire.specs.Buckets.{one_if, count_in, ring, Links}
use Rattle.aio_expire.proofs.Rings.{count-other, count-same, links-kept, walked}

-- ---- Few numbers

one-below : (x n : ℕ) → one_if (nat_lt x (suc n)) ≡ one_if (nat_lt x n) + one_if (x == n)
one-below x n = grind (arith, nat_tests)

-- how many of the list are below n
abbrev below_count : ℕ → List ℕ → ℕ
below_count n [] = 0
below_count n (x ∷ xs) = one_if (nat_lt x n) + below_count n xs

below-next : (n : ℕ) (xs : List ℕ) → below_count (suc n) xs ≡ below_count n xs + count_in n xs
below-next n [] = refl
below-next n (x ∷ xs) = omega (arith, one-below x n, below-next n xs)

below-zero : (xs : List ℕ) → below_count 0 xs ≡ 0
below-zero [] = refl
below-zero (x ∷ xs) = let none : one_if (nat_lt x 0) ≡ 0 = grind (arith, nat_tests) in omega (arith, none, below-zero xs)

below-few : (n : ℕ) (xs : List ℕ) → ((s : ℕ) → count_in s xs ≤ 1) → below_count n xs ≤ n
below-few zero xs once = omega (arith, below-zero xs)
below-few (suc n) xs once = omega (arith, below-next n xs, below-few n xs once, once n)

-- all of a chain are below n
below-all : (nx pv : List ℕ) (n e f : ℕ) (xs : List ℕ) → Links nx pv n e f xs → below_count n xs ≡ length xs
below-all nx pv n e f [] l = refl
below-all nx pv n e f (x ∷ xs) l =
    let lt = l.1 in
    let one : one_if (nat_lt x n) ≡ 1 = grind (arith, nat_tests) in
    omega (arith, one, below-all nx pv n e x xs l.3)

pub few : (nx pv : List ℕ) (n e f : ℕ) (xs : List ℕ) → Links nx pv n e f xs → ((s : ℕ) → count_in s xs ≤ 1) → length xs ≤ n
few nx pv n e f xs l once = omega (arith, below-all nx pv n e f xs l, below-few n xs once)

-- the ring of a head is what the links say
pub ring-is : (nx pv : List ℕ) (n e : ℕ) (xs : List ℕ) → n ≤ e → Links nx pv n e e xs → ((s : ℕ) → count_in s xs ≤ 1) → ring nx n e ≡ xs
ring-is nx pv n e xs o l once = walked nx pv n e e n xs o l (few nx pv n e e xs l once)

-- no number that isn't a slot
pub none-above : (nx pv : List ℕ) (n e f : ℕ) (xs : List ℕ) (i : ℕ) → Links nx pv n e f xs → n ≤ i → count_in i xs ≡ 0
none-above nx pv n e f [] i l h = refl
none-above nx pv n e f (x ∷ xs) i l h =
    let lt = l.1 in
    let none : one_if (x == i) ≡ 0 = grind (arith, nat_tests) in
    omega (arith, none, none-above nx pv n e x xs i l.3 h)

-- ---- Joining

pub links-joined : (nx pv nx' pv' : List ℕ) (n e s : ℕ)
    → ((j : ℕ) → (j ≡ e → ⊥) → get_or nx' j 0 ≡ get_or nx j 0) → get_or nx' e 0 ≡ s
    → ((j : ℕ) → (j ≡ get_or nx e 0 → ⊥) → get_or pv' j 0 ≡ get_or pv j 0) → get_or pv' (get_or nx e 0) 0 ≡ s
    → n ≤ e → s < n → get_or nx s 0 ≡ get_or nx e 0 → get_or pv s 0 ≡ e
    → (xs : List ℕ) → Links nx pv n e e xs → ((x : ℕ) → count_in x xs ≤ 1) → count_in s xs ≡ 0
    → Links nx' pv' n e e (s ∷ xs)
links-joined nx pv nx' pv' n e s sn ne sp pz o lt ns ps [] l once free =
    let s_e : s ≡ e → ⊥ = λ i. absurd (omega (arith, i, lt, o)) in
    let s_z : s ≡ get_or nx e 0 → ⊥ = λ i. let z = l.0 in absurd (omega (arith, i, z, lt, o)) in
    (ne, lt, sp s s_z ∙ ps, (sn s s_e ∙ ns ∙ l.0, ap (λ (i : ℕ). get_or pv' i 0) (sym l.0) ∙ pz))
links-joined nx pv nx' pv' n e s sn ne sp pz o lt ns ps (y ∷ ys) l once free =
    let s_e : s ≡ e → ⊥ = λ i. absurd (omega (arith, i, lt, o)) in
    let q = count-other s y ys free in
    let y_lt = l.1 in
    let s_z : s ≡ get_or nx e 0 → ⊥ = λ i. q.0 (sym (i ∙ l.0)) in
    let none_y : count_in y ys ≡ 0 = let c = count-same y y ys refl in let v = once y in omega (arith, c, v) in (
      ne,
      lt,
      sp s s_z ∙ ps,
      (
        sn s s_e ∙ ns ∙ l.0,
        l.1,
        ap (λ (i : ℕ). get_or pv' i 0) (sym l.0) ∙ pz,
        links-kept nx pv nx' pv' e (get_or nx e 0) sn sp n e y ys (λ i. absurd (omega (arith, i, y_lt, o))) (λ i. let j : e ≡ y = i ∙ l.0 in absurd (omega (arith, j, y_lt, o)))
            (none-above nx pv n e y ys e l.3 o) (subst (λ (i : ℕ). count_in i ys ≡ 0) (sym l.0) none_y) l.3,
      ),
    )
