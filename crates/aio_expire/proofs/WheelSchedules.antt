-- The entries of a wheel in order.
use Rattle.std.proofs.Common.{◌≡◌, ℕ, ◌+◌, ◌<◌, ◌≤◌, Bool, true, false, ◌⊎◌, inl, inr, List, [], ◌∷◌, Option, Some, None, length, set, refl, sym, ap, subst, ◌∙◌, arith}
use Rattle.std.specs.Prelude.{filter, replicate, is_some, IsTrue, ◌↔◌, not, ◌==◌, nat_lt, nat_le, ◌&&◌}
use Rattle.std.proofs.lemmas.List.{get_or-set_same, get_or-set_other, length-set, length-replicate, set_past}
use Rattle.std.proofs.lemmas.Bool.Decides.{nat_tests}
use Rattle.aio_expire.specs.declared.deadlines.Deadline.{Deadline}
use Rattle.aio_expire.specs.Buckets.{one_if}
use Rattle.aio_expire.specs.Schedule.{Schedule, Turning, IsSchedule, is_before, is_of, is_due, count_of, tally, others_than, due_of, later_than, put_in, Each, IsOrdered}
use Rattle.aio_expire.specs.SlotEntries.{SlotEntries, cell_at, bucket_of, belongs, count_cells, in_order, AreOwn, AreFiled, AreApart, IsWheelOf}
use Rattle.aio_expire.proofs.EntriesByTick.{Each-filter, Each-append, ordered_filter, ordered_put}
use Rattle.aio_expire.proofs.Rings.{same}
use Rattle.aio_expire.proofs.Filing.{equal_or, own-put}
use Rattle.aio_expire.proofs.InOrder.{tally-filter, tally-put, tally-cells, unique, OwnFrom, own_from, own_tail, own_head, in_cell, cells-set, cells-same, cells-none, cells-of, in_order-empty}
use Rattle.aio_expire.proofs.Pulling.{some-inside, put-counts, own-count}

test_of : (x y : ℕ) → x ≡ y → (x == y) ≡ true
test_of x y h = grind (arith, nat_tests)

test_not : (x y : ℕ) → (x ≡ y → ⊥) → (x == y) ≡ false
test_not x y h = elim (x == y) as (λ t. (x == y) ≡ t → t ≡ false) [ true ↦ (λ e. absurd (h (same x y e))) | false ↦ (λ e. refl) ] refl

-- ---- It is a schedule

none_before : (k s : ℕ) (cs : List (Option Deadline)) → OwnFrom k cs → s < k → count_of s (in_order cs) ≡ 0
none_before k s cs own l = tally-cells (is_of s) cs ∙ cells-none (is_of s) cs (λ i e h. let w = own i e h in test_not e.op.slot s (λ z. absurd (omega (arith, z, w, l))))

pub in_order-ordered : (k : ℕ) (cs : List (Option Deadline)) → OwnFrom k cs → IsOrdered (in_order cs)
in_order-ordered k [] own = tt
in_order-ordered k (None ∷ cs) own = in_order-ordered (k + 1) cs (own_tail k None cs own)
in_order-ordered k (Some e ∷ cs) own =
    let tail = own_tail k (Some e) cs own in
    let h = own_head k e cs own in
    ordered_put e (in_order cs) (in_order-ordered (k + 1) cs tail) (none_before (k + 1) e.op.slot cs tail (omega (arith, h)))

and_true : (a : Bool) → a ≡ (a && true)
and_true true = refl
and_true false = refl

one_cell : (o : Option Deadline) → in_cell (λ d. true) o ≤ 1
one_cell None = omega arith
one_cell (Some e) = omega arith

pub cells-one : (cs : List (Option Deadline)) (s : ℕ) → AreOwn cs → count_cells (is_of s) cs ≤ 1
cells-one cs s own =
    let a = cells-same (is_of s) (λ d. is_of (0 + s) d && true) cs (λ i e h. shift e) in
    let b = cells-of (λ d. true) 0 s cs (own_from cs own) in
    let o = one_cell (cell_at s cs) in
    omega (arith, a, b, o)
  where
    shift : (e : Deadline) → (e.op.slot == s) ≡ ((e.op.slot == (0 + s)) && true)
    shift e = and_true (e.op.slot == s) ∙ (let z : s ≡ 0 + s = omega arith in ap (λ (i : ℕ). (e.op.slot == i) && true) z)

inside_all : (k n : ℕ) (cs : List (Option Deadline)) → OwnFrom k cs → k + length cs ≤ n → Each (λ d. d.op.slot < n) (in_order cs)
inside_all k n [] own l = tt
inside_all k n (None ∷ cs) own l = inside_all (k + 1) n cs (own_tail k None cs own) (omega (arith, l))
inside_all k n (Some e ∷ cs) own l =
    let rest = inside_all (k + 1) n cs (own_tail k (Some e) cs own) (omega (arith, l)) in
    let h = own_head k e cs own in
    Each-append _ (filter (λ d. is_before d e) (in_order cs)) (e ∷ filter (λ d. not (is_before d e)) (in_order cs)) (Each-filter _ _ (in_order cs) rest) (omega (arith, h, l), Each-filter _ _ (in_order cs) rest)

pub schedule-of : (cs : List (Option Deadline)) → AreOwn cs → IsSchedule record { slots = length cs; entries = in_order cs }
schedule-of cs own = record {
  ordered = in_order-ordered 0 cs (own_from cs own);
  once = λ slot. let t = tally-cells (is_of slot) cs in let o = cells-one cs slot own in omega (arith, t, o);
  inside = inside_all 0 (length cs) cs (own_from cs own) (omega arith);
}

-- ---- Put and remove

pub free-cell : (cs : List (Option Deadline)) (s : ℕ) → AreOwn cs → count_of s (in_order cs) ≡ 0 → cell_at s cs ≡ None
free-cell cs s own h = by_cell (cell_at s cs) refl
  where
    by_cell : (o : Option Deadline) → cell_at s cs ≡ o → cell_at s cs ≡ None
    by_cell None e = e
    by_cell (Some d) e = absurd (let c = own-count cs own s d e in let t = tally-cells (is_of s) cs in omega (arith, c, t, h))

pub put-schedule : (cs : List (Option Deadline)) (e : Deadline) → AreOwn cs → e.op.slot < length cs → count_of e.op.slot (in_order cs) ≡ 0
    → let schedule : Schedule = record { slots = length (set cs e.op.slot (Some e)); entries = in_order (set cs e.op.slot (Some e)) } in schedule ≡ record { slots = length cs; entries = put_in e (in_order cs) }
put-schedule cs e own l free =
    let ds = set cs e.op.slot (Some e) in
    let entries = unique (in_order ds) (put_in e (in_order cs)) (in_order-ordered 0 ds (own_from ds (own-put cs e own l))) (ordered_put e (in_order cs) (in_order-ordered 0 cs (own_from cs own)) free)
    (λ p. let a = tally-cells p ds in let b = put-counts cs e l (free-cell cs e.op.slot own free) p in let t = tally-put p e (in_order cs) in let d = tally-cells p cs in omega (arith, a, b, t, d)) in
    let long = length-set cs e.op.slot (Some e) in
    λ i. record { slots = long i; entries = entries i }

without-own : (cs : List (Option Deadline)) (s : ℕ) → AreOwn cs → (i : ℕ) (e : Deadline) → cell_at i (set cs s None) ≡ Some e → is_of s e ≡ false
without-own cs s own i e h = elim (equal_or i s) [
  | inl q ↦ elim (inside_or (length cs) s) [
    | inl l ↦ absurd (let z : None ≡ Some e = sym (subst (λ (j : ℕ). cell_at j (set cs s None) ≡ None) (sym q) (get_or-set_same cs s None None l)) ∙ h in cc)
    | inr l ↦ absurd (let k : cell_at i cs ≡ Some e = subst (λ ds. cell_at i ds ≡ Some e) (set_past cs s None l) h in let m = some-inside cs i e k in omega (arith, m, q, l))
  ]
  | inr ne ↦ let w = own i e (sym (get_or-set_other cs s i None None ne) ∙ h) in test_not e.op.slot s (λ z. ne (sym w ∙ z))
]
  where
    inside_or : (n j : ℕ) → (j < n) ⊎ (n ≤ j)
    inside_or n j = elim (nat_lt j n) as (λ t. nat_lt j n ≡ t → (j < n) ⊎ (n ≤ j)) [ true ↦ (λ k. inl (grind (arith, nat_tests))) | false ↦ (λ k. inr (grind (arith, nat_tests))) ] refl

not_of : (cs : List (Option Deadline)) (s : ℕ) (p : Deadline → Bool) → AreOwn cs → count_cells (λ d. not (is_of s d) && p d) (set cs s None) ≡ count_cells (λ d. not (is_of s d) && p d) cs
not_of cs s p own = elim (inside_or (length cs) s) [
  | inl l ↦ (let q : Deadline → Bool = λ d. not (is_of s d) && p d in let c = cells-set q cs s None l in let z = by_cell (cell_at s cs) refl in omega (arith, c, z))
  | inr l ↦ ap (count_cells (λ d. not (is_of s d) && p d)) (set_past cs s None l)
]
  where
    inside_or : (n j : ℕ) → (j < n) ⊎ (n ≤ j)
    inside_or n j = elim (nat_lt j n) as (λ t. nat_lt j n ≡ t → (j < n) ⊎ (n ≤ j)) [ true ↦ (λ k. inl (grind (arith, nat_tests))) | false ↦ (λ k. inr (grind (arith, nat_tests))) ] refl

    by_cell : (o : Option Deadline) → cell_at s cs ≡ o → in_cell (λ d. not (is_of s d) && p d) (cell_at s cs) ≡ 0
    by_cell None e = ap (in_cell (λ d. not (is_of s d) && p d)) e
    by_cell (Some d) e = ap (in_cell (λ d. not (is_of s d) && p d)) e ∙ (let t = test_of d.op.slot s (own s d e) in ap (λ (b : Bool). one_if (not b && p d)) t)

not_and : (a b : Bool) → a ≡ false → b ≡ (not a && b)
not_and true b h = absurd (cc)
not_and false b h = refl

pub take-schedule : (cs : List (Option Deadline)) (s : ℕ) → AreOwn cs → AreOwn (set cs s None)
    → let schedule : Schedule = record { slots = length (set cs s None); entries = in_order (set cs s None) } in schedule ≡ record { slots = length cs; entries = others_than s (in_order cs) }
take-schedule cs s own own' =
    let ds = set cs s None in
    let entries = unique (in_order ds) (others_than s (in_order cs)) (in_order-ordered 0 ds (own_from ds own')) (ordered_filter _ (in_order cs) (in_order-ordered 0 cs (own_from cs own)))
    (λ p.
    let q : Deadline → Bool = λ d. not (is_of s d) && p d in
    let a = tally-cells p ds in
    let b = cells-same p q ds (λ i e h. not_and (is_of s e) (p e) (without-own cs s own i e h)) in
    let d = not_of cs s p own in
    let f = tally-filter p (λ d. not (is_of s d)) (in_order cs) in
    let g = tally-cells q cs in
    omega (arith, a, b, d, f, g)) in
    let long = length-set cs s None in
    λ i. record { slots = long i; entries = entries i }

-- ---- The wheel

belongs-cell : (m b : ℕ) (o : Option Deadline) → belongs m b o ≡ in_cell (λ d. bucket_of m d.at == b) o
belongs-cell m b None = refl
belongs-cell m b (Some e) = refl

pub wheel-of : (m : ℕ) (cs : List (Option Deadline)) (lists : List (List ℕ)) → AreOwn cs → AreFiled m cs lists → length lists ≡ 513 → IsWheelOf m (in_order cs) lists
wheel-of m cs lists own f n = record {
  count = n;
  each = λ b slot.
      let q : Deadline → Bool = λ d. bucket_of m d.at == b in
      let r : Deadline → Bool = λ d. is_of slot d && q d in
      let z : 0 + slot ≡ slot = omega arith in
      let k : count_cells r cs ≡ in_cell q (cell_at slot cs) = subst (λ (j : ℕ). count_cells (λ d. is_of j d && q d) cs ≡ in_cell q (cell_at slot cs)) z (cells-of q 0 slot cs (own_from cs own)) in
      f b slot ∙ belongs-cell m b (cell_at slot cs) ∙ sym k ∙ sym (tally-cells r cs);
}

-- ---- What is due

module _ (now : ℕ) (cells left : List (Option Deadline)) (pulled : List Deadline) (own : AreOwn cells) (ordered : IsOrdered pulled)
    (moved : (p : Deadline → Bool) → tally p pulled + count_cells p left ≡ count_cells p cells) (later : (slot : ℕ) (e : Deadline) → cell_at slot left ≡ Some e → now < e.at) where
  not_due : (e : Deadline) → now < e.at → is_due now e ≡ false
  not_due e l = late e.at l
    where
      late : (at : ℕ) → now < at → nat_le at now ≡ false
      late at k = grind (arith, nat_tests)

  and_false : (a b : Bool) → a ≡ false → (a && b) ≡ false
  and_false true b h = absurd (cc)
  and_false false b h = refl

  pub due-names : due_of now pulled ≡ due_of now (in_order cells)
  due-names = unique (due_of now pulled) (due_of now (in_order cells)) (ordered_filter _ pulled ordered) (ordered_filter _ (in_order cells) (in_order-ordered 0 cells (own_from cells own)))
      (λ p.
      let q : Deadline → Bool = λ d. is_due now d && p d in
      let a = tally-filter p (is_due now) pulled in
      let b = tally-filter p (is_due now) (in_order cells) in
      let d = tally-cells q cells in
      let m = moved q in
      let z = cells-none q left (λ i e h. and_false (is_due now e) (p e) (not_due e (later i e h))) in
      omega (arith, a, b, d, m, z))

  pub due-rest : (back : List (Option Deadline)) → AreOwn back → ((p : Deadline → Bool) → count_cells p back ≡ tally p (later_than now pulled) + count_cells p left) → in_order back ≡ later_than now (in_order cells)
  due-rest back own' h = unique (in_order back) (later_than now (in_order cells)) (in_order-ordered 0 back (own_from back own')) (ordered_filter _ (in_order cells) (in_order-ordered 0 cells (own_from cells own)))
      (λ p.
      let q : Deadline → Bool = λ d. not (is_due now d) && p d in
      let a = tally-cells p back in
      let b = h p in
      let d = tally-filter p (λ d. not (is_due now d)) pulled in
      let m = moved q in
      let s = cells-same p q left (λ i e k. not_and (is_due now e) (p e) (not_due e (later i e k))) in
      let f = tally-filter p (λ d. not (is_due now d)) (in_order cells) in
      let g = tally-cells q cells in
      omega (arith, a, b, d, m, s, f, g))

-- no two entries of a slot, pulled or left
pub pulled-apart : (cells : List (Option Deadline)) (s : SlotEntries) (pulled : List Deadline) → AreOwn cells → length s.cells ≡ length cells → ((p : Deadline → Bool) → tally p pulled + count_cells p s.cells ≡ count_cells p cells) → AreApart s pulled
pulled-apart cells s pulled own n moved = record {
  once = λ slot. let m = moved (is_of slot) in let o = cells-one cells slot own in omega (arith, m, o);
  inside = λ slot l.
      let m = moved (is_of slot) in
      let z = cells-none (is_of slot) cells (λ i e h. let w = own i e h in let k = some-inside cells i e h in test_not e.op.slot slot (λ q. absurd (omega (arith, q, w, k, n, l)))) in
      omega (arith, m, z);
}

pub cells-all : (cs : List (Option Deadline)) → count_cells (λ d. true) cs ≤ length cs
cells-all [] = omega arith
cells-all (None ∷ cs) = omega (arith, cells-all cs)
cells-all (Some e ∷ cs) = omega (arith, cells-all cs)

pub made-schedule : (n : ℕ) (v : SlotEntries) → v ≡ record { cells = replicate n None; turned = 0 } → let made : Turning = record { schedule = record { slots = length v.cells; entries = in_order v.cells }; turned = v.turned } in made ≡ record { schedule = record { slots = n; entries = [] }; turned = 0 }
made-schedule n v e =
    let long : length (replicate n (none_cell)) ≡ n = length-replicate n none_cell in
    let entries = in_order-empty n in
    ap (λ (s : SlotEntries). let t : Turning = record { schedule = record { slots = length s.cells; entries = in_order s.cells }; turned = s.turned } in t) e ∙ (λ i. record { schedule = record { slots = long i; entries = entries i }; turned = 0 })
  where
    none_cell : Option Deadline
    none_cell = None

pub had-entry : (cs : List (Option Deadline)) (s : ℕ) (r : Bool) → AreOwn cs → r ≡ is_some (cell_at s cs) → IsTrue r ↔ (0 < count_of s (in_order cs))
had-entry cs s r own e = by_cell (cell_at s cs) refl
  where
    by_cell : (o : Option Deadline) → cell_at s cs ≡ o → IsTrue r ↔ (0 < count_of s (in_order cs))
    by_cell None h =
        let no_ : r ≡ false = e ∙ ap is_some h in
        (λ t. absurd (let m : false ≡ true = sym no_ ∙ t in cc), λ l. absurd (let t = tally-cells (is_of s) cs in let z = cells-none (is_of s) cs (λ i d k. let w = own i d k in test_not d.op.slot s (λ q. let j : i ≡ s = sym w ∙ q in absurd (let m : None ≡ Some d = sym h ∙ subst (λ (x : ℕ). cell_at x cs ≡ Some d) j k in cc))) in omega (arith, t, z, l)))
    by_cell (Some d) h =
        let yes_ : r ≡ true = e ∙ ap is_some h in
        (λ t. let c = own-count cs own s d h in let k = tally-cells (is_of s) cs in omega (arith, c, k), λ l. yes_)

pub due-few : (now : ℕ) (cs : List (Option Deadline)) → AreOwn cs → length (due_of now (in_order cs)) ≤ length cs
due-few now cs own = let a = tally-cells (is_due now) cs in let b = cells-le (is_due now) cs in omega (arith, a, b)
  where
    cells-le : (p : Deadline → Bool) (ds : List (Option Deadline)) → count_cells p ds ≤ length ds
    cells-le p [] = omega arith
    cells-le p (None ∷ ds) = omega (arith, cells-le p ds)
    cells-le p (Some e ∷ ds) = let o = one (p e) in omega (arith, o, cells-le p ds)
      where
        one : (b : Bool) → one_if b ≤ 1
        one true = omega arith
        one false = omega arith
