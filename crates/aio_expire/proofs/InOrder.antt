-- Entries by slot, in order.
use Rattle.std.proofs.Common.{◌≡◌, ℕ, zero, suc, ◌+◌, ◌<◌, ◌≤◌, Bool, true, false, cond, List, [], ◌∷◌, ◌++◌, Option, Some, None, length, get_or, set, replicate, refl, sym, ap, subst, ◌∙◌, arith}
use Rattle.std.specs.Prelude.{filter, not, ◌==◌, nat_lt, ◌&&◌, ◌||◌, sum_by}
use Rattle.std.specs.Ordering.{is_lt, nat_cmp, ordering_then}
use Rattle.std.specs.List.Sorted.{IsPermutation}
use Rattle.std.proofs.lemmas.List.Sorted.{sum_by-IsPermutation}
use Rattle.std.proofs.lemmas.List.Sums.{sum_by-cons}
use Rattle.std.proofs.lemmas.Bool.Decides.{nat_tests}
use Rattle.aio_expire.specs.declared.deadlines.Deadline.{Deadline}
use Rattle.aio_expire.specs.Buckets.{one_if}
use Rattle.aio_expire.specs.Schedule.{is_before, is_of, count_of, tally, put_in, Each, IsOrdered}
use Rattle.aio_expire.specs.SlotEntries.{cell_at, count_cells, in_order, AreOwn}
use Rattle.aio_expire.proofs.Rings.{same}

-- ---- How many pass a test

pub tally-cons : (p : Deadline → Bool) (x : Deadline) (xs : List Deadline) → tally p (x ∷ xs) ≡ one_if (p x) + tally p xs
tally-cons p x xs = elim (p x) as (λ t. length (cond t (x ∷ filter p xs) (filter p xs)) ≡ one_if t + tally p xs) [ true ↦ omega arith | false ↦ omega arith ]

pub tally-append : (p : Deadline → Bool) (xs ys : List Deadline) → tally p (xs ++ ys) ≡ tally p xs + tally p ys
tally-append p [] ys = omega arith
tally-append p (x ∷ xs) ys = omega (arith, tally-cons p x xs, tally-cons p x (xs ++ ys), tally-append p xs ys)

pub tally-filter : (p q : Deadline → Bool) (xs : List Deadline) → tally p (filter q xs) ≡ tally (λ d. q d && p d) xs
tally-filter p q [] = refl
tally-filter p q (x ∷ xs) =
    tally_if (q x) ∙ (let r = tally-filter p q xs in let c = tally-cons (λ d. q d && p d) x xs in omega (arith, r, c))
  where
    tally_if : (t : Bool) → tally p (cond t (x ∷ filter q xs) (filter q xs)) ≡ one_if (t && p x) + tally p (filter q xs)
    tally_if true = tally-cons p x (filter q xs)
    tally_if false = omega arith

parts_one : (a b : Bool) → one_if (a && b) + one_if (not a && b) ≡ one_if b
parts_one true b = omega arith
parts_one false b = omega arith

pub tally-parts : (p q : Deadline → Bool) (xs : List Deadline) → tally (λ d. q d && p d) xs + tally (λ d. not (q d) && p d) xs ≡ tally p xs
tally-parts p q [] = refl
tally-parts p q (x ∷ xs) =
    omega (arith, tally-parts p q xs, tally-cons (λ d. q d && p d) x xs, tally-cons (λ d. not (q d) && p d) x xs, tally-cons p x xs, parts_one (q x) (p x))

pub tally-put : (p : Deadline → Bool) (e : Deadline) (xs : List Deadline) → tally p (put_in e xs) ≡ one_if (p e) + tally p xs
tally-put p e xs =
    let q : Deadline → Bool = λ d. is_before d e in
    omega (arith, tally-append p (filter q xs) (e ∷ filter (λ d. not (q d)) xs), tally-cons p e (filter (λ d. not (q d)) xs), tally-filter p q xs, tally-filter p (λ d. not (q d)) xs, tally-parts p q xs)

pub tally-cells : (p : Deadline → Bool) (cs : List (Option Deadline)) → tally p (in_order cs) ≡ count_cells p cs
tally-cells p [] = refl
tally-cells p (None ∷ cs) = tally-cells p cs
tally-cells p (Some e ∷ cs) = omega (arith, tally-put p e (in_order cs), tally-cells p cs)

tally-sum : (p : Deadline → Bool) (xs : List Deadline) → tally p xs ≡ sum_by (λ d. one_if (p d)) xs
tally-sum p [] = refl
tally-sum p (x ∷ xs) = omega (arith, tally-cons p x xs, tally-sum p xs, sum_by-cons (λ d. one_if (p d)) x xs)

pub tally-permutation : (p : Deadline → Bool) (xs ys : List Deadline) → IsPermutation xs ys → tally p ys ≡ tally p xs
tally-permutation p xs ys h = tally-sum p ys ∙ sum_by-IsPermutation (λ d. one_if (p d)) xs ys h ∙ sym (tally-sum p xs)

pub tally-all : (xs : List Deadline) → tally (λ d. true) xs ≡ length xs
tally-all [] = refl
tally-all (x ∷ xs) = omega (arith, tally-all xs)

pub tally-none : (p : Deadline → Bool) (xs : List Deadline) → Each (λ d. p d ≡ false) xs → tally p xs ≡ 0
tally-none p [] h = refl
tally-none p (x ∷ xs) h = omega (arith, tally-cons p x xs, ap one_if h.0, tally-none p xs h.1)

-- some entry passes a test that is passed
pub passes_one : (P : Deadline → Type 0) (p : Deadline → Bool) (xs : List Deadline) → Each P xs → 0 < tally p xs → (d : Deadline) × (P d) × (p d ≡ true)
passes_one P p [] h l = absurd (omega (arith, l))
passes_one P p (x ∷ xs) h l = elim (p x) as (λ t. p x ≡ t → 0 < one_if t + tally p xs → (d : Deadline) × (P d) × (p d ≡ true)) [
  | true ↦ (λ e k. (x, h.0, e))
  | false ↦ (λ e k. passes_one P p xs h.1 (omega (arith, k)))
] refl (let c = tally-cons p x xs in omega (arith, l, c))

-- ---- Ordered lists are equal where the same number pass each test

abbrev is_it : Deadline → Deadline → Bool
is_it d e = d.at == e.at && (d.op.slot == e.op.slot && d.op.generation == e.op.generation)

both_true : (a b : Bool) → (a && b) ≡ true → (a ≡ true) × (b ≡ true)
both_true true b h = (refl, h)
both_true false b h = absurd cc

self_test : (x : ℕ) → (x == x) ≡ true
self_test x = grind (arith, nat_tests)

it_self : (d : Deadline) → is_it d d ≡ true
it_self d = rw (self_test d.at, self_test d.op.slot, self_test d.op.generation) refl

it_same : (d e : Deadline) → is_it d e ≡ true → d ≡ e
it_same d e h =
    let a = both_true (d.at == e.at) (d.op.slot == e.op.slot && d.op.generation == e.op.generation) h in
    let b = both_true (d.op.slot == e.op.slot) (d.op.generation == e.op.generation) a.1 in
    let p = same d.at e.at a.0 in
    let q = same d.op.slot e.op.slot b.0 in
    let r = same d.op.generation e.op.generation b.1 in
    λ i. record { at = p i; op = record { slot = q i; generation = r i } }

not_both : (a s b t : ℕ) → (nat_lt a b || (a == b && nat_lt s t)) ≡ true → (nat_lt b a || (b == a && nat_lt t s)) ≡ true → ⊥
not_both a s b t p q = grind (arith, nat_tests)

pub unique : (xs ys : List Deadline) → IsOrdered xs → IsOrdered ys → ((p : Deadline → Bool) → tally p xs ≡ tally p ys) → xs ≡ ys
unique [] [] o q h = refl
unique [] (y ∷ ys) o q h = absurd (let e = h (λ d. true) in let c = tally-cons (λ d. true) y ys in omega (arith, e, c))
unique (x ∷ xs) [] o q h = absurd (let e = h (λ d. true) in let c = tally-cons (λ d. true) x xs in omega (arith, e, c))
unique (x ∷ xs) (y ∷ ys) o q h =
    let head : x ≡ y = elim (is_it x y) as (λ t. is_it x y ≡ t → x ≡ y) [
      | true ↦ (λ e. it_same x y e)
      | false ↦ (λ e. absurd (
          let no_x : is_it y x ≡ false = symmetric x y e in
          let y_before : is_before y x ≡ true = before_of y ys x q.0 (let c = tally-cons (is_it x) x xs in let k = h (is_it x) in let s = ap one_if (it_self x) in let w = tally-cons (is_it x) y ys in let z = ap one_if e in omega (arith, c, k, s, w, z)) in
          let x_before : is_before x y ≡ true = before_of x xs y o.0 (let c = tally-cons (is_it y) y ys in let k = h (is_it y) in let s = ap one_if (it_self y) in let w = tally-cons (is_it y) x xs in let z = ap one_if no_x in omega (arith, c, k, s, w, z)) in
          not_both x.at x.op.slot y.at y.op.slot x_before y_before))
    ] refl in
    let rest = unique xs ys o.1 q.1 (λ p. let k = h p in let c = tally-cons p x xs in let d = tally-cons p y ys in let e = ap (λ (z : Deadline). one_if (p z)) head in omega (arith, k, c, d, e)) in
    λ i. head i ∷ rest i
  where
    before_of : (a : Deadline) (as_ : List Deadline) (z : Deadline) → Each (λ d. is_before a d ≡ true) as_ → 0 < tally (is_it z) as_ → is_before a z ≡ true
    before_of a as_ z e l =
        let w = passes_one (λ d. is_before a d ≡ true) (is_it z) as_ e l in
        subst (λ (d : Deadline). is_before a d ≡ true) (sym (it_same z w.0 w.2)) w.1

    symmetric : (a b : Deadline) → is_it a b ≡ false → is_it b a ≡ false
    symmetric a b e = elim (is_it b a) as (λ t. is_it b a ≡ t → t ≡ false) [
      | true ↦ (λ k. absurd (let s = it_same b a k in let z : is_it a b ≡ true = subst (λ (d : Deadline). is_it a d ≡ true) (sym s) (it_self a) in let w : true ≡ false = sym z ∙ e in cc))
      | false ↦ (λ k. refl)
    ] refl

-- ---- Entries at their own slots

-- the slot of each entry is `k` above its place
abbrev pub OwnFrom : ℕ → List (Option Deadline) → Type 0
OwnFrom k cs = (i : ℕ) (e : Deadline) → cell_at i cs ≡ Some e → e.op.slot ≡ k + i

pub own_from : (cs : List (Option Deadline)) → AreOwn cs → OwnFrom 0 cs
own_from cs own i e h = let w = own i e h in omega (arith, w)

pub own_tail : (k : ℕ) (c : Option Deadline) (cs : List (Option Deadline)) → OwnFrom k (c ∷ cs) → OwnFrom (k + 1) cs
own_tail k c cs own i e h = let w = own (suc i) e h in omega (arith, w)

pub own_head : (k : ℕ) (e : Deadline) (cs : List (Option Deadline)) → OwnFrom k (Some e ∷ cs) → e.op.slot ≡ k
own_head k e cs own = let w = own 0 e refl in omega (arith, w)

-- how many entries of a cell pass a test
abbrev pub in_cell : (Deadline → Bool) → Option Deadline → ℕ
in_cell p None = 0
in_cell p (Some e) = one_if (p e)

pub cells-cons : (p : Deadline → Bool) (c : Option Deadline) (cs : List (Option Deadline)) → count_cells p (c ∷ cs) ≡ in_cell p c + count_cells p cs
cells-cons p None cs = omega arith
cells-cons p (Some e) cs = omega arith

pub cells-set : (p : Deadline → Bool) (cs : List (Option Deadline)) (s : ℕ) (o : Option Deadline) → s < length cs → count_cells p (set cs s o) + in_cell p (cell_at s cs) ≡ in_cell p o + count_cells p cs
cells-set p [] s o l = absurd (omega (arith, l))
cells-set p (c ∷ cs) zero o l = omega (arith, cells-cons p o cs, cells-cons p c cs)
cells-set p (c ∷ cs) (suc s) o l = let r = cells-set p cs s o (omega (arith, l)) in omega (arith, r, cells-cons p c (set cs s o), cells-cons p c cs)

pub cells-same : (p q : Deadline → Bool) (cs : List (Option Deadline)) → ((i : ℕ) (e : Deadline) → cell_at i cs ≡ Some e → p e ≡ q e) → count_cells p cs ≡ count_cells q cs
cells-same p q [] h = refl
cells-same p q (None ∷ cs) h = cells-same p q cs (λ i e k. h (suc i) e k)
cells-same p q (Some d ∷ cs) h = let a = ap one_if (h 0 d refl) in let r = cells-same p q cs (λ i e k. h (suc i) e k) in omega (arith, a, r)

pub cells-none : (p : Deadline → Bool) (cs : List (Option Deadline)) → ((i : ℕ) (e : Deadline) → cell_at i cs ≡ Some e → p e ≡ false) → count_cells p cs ≡ 0
cells-none p [] h = refl
cells-none p (None ∷ cs) h = cells-none p cs (λ i e k. h (suc i) e k)
cells-none p (Some d ∷ cs) h = let a = ap one_if (h 0 d refl) in let r = cells-none p cs (λ i e k. h (suc i) e k) in omega (arith, a, r)

pub cells-empty : (p : Deadline → Bool) (n : ℕ) → count_cells p (replicate n None) ≡ 0
cells-empty p zero = refl
cells-empty p (suc n) = cells-empty p n

pub in_order-empty : (n : ℕ) → in_order (replicate n None) ≡ []
in_order-empty zero = refl
in_order-empty (suc n) = in_order-empty n

no_test : (a b : ℕ) (t : Bool) → (a ≡ b → ⊥) → ((a == b) && t) ≡ false
no_test a b t ne = elim (a == b) as (λ u. (a == b) ≡ u → (u && t) ≡ false) [ true ↦ (λ h. absurd (ne (same a b h))) | false ↦ (λ h. refl) ] refl

-- the entries of one slot are in its cell
pub cells-of : (q : Deadline → Bool) (k s : ℕ) (cs : List (Option Deadline)) → OwnFrom k cs → count_cells (λ d. is_of (k + s) d && q d) cs ≡ in_cell q (cell_at s cs)
cells-of q k s [] own = refl
cells-of q k zero (None ∷ cs) own = later cs (own_tail k None cs own)
  where
    later : (ds : List (Option Deadline)) → OwnFrom (k + 1) ds → count_cells (λ d. is_of (k + 0) d && q d) ds ≡ 0
    later ds o = cells-none (λ d. is_of (k + 0) d && q d) ds (λ i e h. let w = o i e h in no_test e.op.slot (k + 0) (q e) (λ z. absurd (omega (arith, z, w))))
cells-of q k zero (Some d ∷ cs) own =
    let r = later cs (own_tail k (Some d) cs own) in
    let w = own_head k d cs own in
    let t : (d.op.slot == (k + 0)) ≡ true = is_here d.op.slot (k + 0) (omega (arith, w)) in
    rw t (omega (arith, r))
  where
    is_here : (a b : ℕ) → a ≡ b → (a == b) ≡ true
    is_here a b h = grind (arith, nat_tests)

    later : (ds : List (Option Deadline)) → OwnFrom (k + 1) ds → count_cells (λ d. is_of (k + 0) d && q d) ds ≡ 0
    later ds o = cells-none (λ d. is_of (k + 0) d && q d) ds (λ i e h. let w = o i e h in no_test e.op.slot (k + 0) (q e) (λ z. absurd (omega (arith, z, w))))
cells-of q k (suc s) (c ∷ cs) own =
    let r = cells-of q (k + 1) s cs (own_tail k c cs own) in
    let shift : k + 1 + s ≡ k + suc s = omega arith in
    let r2 : count_cells (λ d. is_of (k + suc s) d && q d) cs ≡ in_cell q (cell_at s cs) = subst (λ (j : ℕ). count_cells (λ d. is_of j d && q d) cs ≡ in_cell q (cell_at s cs)) shift r in
    let h = cells-cons (λ d. is_of (k + suc s) d && q d) c cs in
    let z : in_cell (λ d. is_of (k + suc s) d && q d) c ≡ 0 = head c (λ e i. let w = own 0 e (ap (λ (o : Option Deadline). o) i) in omega (arith, w)) in
    omega (arith, h, z, r2)
  where
    head : (o : Option Deadline) → ((e : Deadline) → o ≡ Some e → e.op.slot ≡ k) → in_cell (λ d. is_of (k + suc s) d && q d) o ≡ 0
    head None f = refl
    head (Some e) f = let w = f e refl in ap one_if (no_test e.op.slot (k + suc s) (q e) (λ z. absurd (omega (arith, z, w))))

-- ---- Sorted entries

before_not : (a s b t : ℕ) → (nat_lt a b || (a == b && nat_lt s t)) ≡ false → (s ≡ t → ⊥) → (nat_lt b a || (b == a && nat_lt t s)) ≡ true
before_not a s b t h ne = grind (arith, nat_tests)

count_two : (x : Deadline) (xs : List Deadline) (y : Deadline) → ((slot : ℕ) → count_of slot (x ∷ xs) ≤ 1) → 0 < count_of y.op.slot xs → x.op.slot ≡ y.op.slot → ⊥
count_two x xs y once l e =
    let c = tally-cons (is_of y.op.slot) x xs in
    let o = once y.op.slot in
    let t : one_if (is_of y.op.slot x) ≡ 1 = ap one_if (here x.op.slot y.op.slot e) in
    absurd (omega (arith, c, o, t, l))
  where
    here : (a b : ℕ) → a ≡ b → (a == b) ≡ true
    here a b h = grind (arith, nat_tests)

-- entries of different slots none of which comes before an earlier one are in order
pub ordered_from : (xs : List Deadline) → ((i j : ℕ) (d : Deadline) → i < j → j < length xs → is_before (get_or xs j d) (get_or xs i d) ≡ false) → ((slot : ℕ) → count_of slot xs ≤ 1) → IsOrdered xs
ordered_from [] h once = tt
ordered_from (x ∷ xs) h once = (
  each xs (λ j d l. h 0 (suc j) d (omega arith) (omega (arith, l))) (λ y l. count_two x xs y once l),
  ordered_from xs (λ i j d k l. h (suc i) (suc j) d (omega (arith, k)) (omega (arith, l))) (λ slot. let o = once slot in let c = tally-cons (is_of slot) x xs in omega (arith, o, c)),
)
  where
    each : (ys : List Deadline) → ((j : ℕ) (d : Deadline) → j < length ys → is_before (get_or ys j d) x ≡ false) → ((y : Deadline) → 0 < count_of y.op.slot ys → x.op.slot ≡ y.op.slot → ⊥) → Each (λ e. is_before x e ≡ true) ys
    each [] k ne = tt
    each (y ∷ ys) k ne = (
      before_not y.at y.op.slot x.at x.op.slot (k 0 x (omega arith)) (λ e. ne y (let c = tally-cons (is_of y.op.slot) y ys in let t : one_if (is_of y.op.slot y) ≡ 1 = ap one_if (self_test y.op.slot) in omega (arith, c, t)) (sym e)),
      each ys (λ j d l. k (suc j) d (omega (arith, l))) (λ z l. ne z (let c = tally-cons (is_of z.op.slot) y ys in omega (arith, c, l))),
    )

pub times-key : (a s b t : ℕ) → is_lt (ordering_then (nat_cmp a b) (nat_cmp s t)) ≡ (nat_lt a b || (a == b && nat_lt s t))
times-key a s b t = grind (arith, nat_tests)
