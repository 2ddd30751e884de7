-- Entries leave their slots, and go back.
use Rattle.std.proofs.Common.{◌≡◌, ℕ, zero, suc, ◌+◌, ◌<◌, ◌≤◌, Bool, true, false, ◌⊎◌, inl, inr, List, [], ◌∷◌, ◌++◌, Option, Some, None, length, set, refl, sym, ap, subst, ◌∙◌, arith}
use Rattle.std.specs.Prelude.{◌==◌, nat_lt}
use Rattle.std.proofs.lemmas.List.{get_or-set_same, get_or-set_other, get_or_past, length-set}
use Rattle.std.proofs.lemmas.Bool.Decides.{nat_tests}
use Rattle.aio_expire.specs.declared.deadlines.Deadline.{Deadline}
use Rattle.aio_expire.specs.Buckets.{one_if}
use Rattle.aio_expire.specs.Schedule.{tally, is_of}
use Rattle.aio_expire.specs.SlotEntries.{SlotEntries, cell_at, bucket_of, belongs, count_cells, AreOwn, IsPulled, AreEmpty, IsOutside, StaysAt, AllStay, AreApart}
use Rattle.aio_expire.proofs.Rings.{same}
use Rattle.aio_expire.proofs.Filing.{equal_or}
use Rattle.aio_expire.proofs.InOrder.{tally-cons, tally-append, tally-all, in_cell, cells-set}

-- a slot with an entry is one of the slots
pub some-inside : (cs : List (Option Deadline)) (s : ℕ) (e : Deadline) → cell_at s cs ≡ Some e → s < length cs
some-inside cs s e h = elim (nat_lt s (length cs)) as (λ t. nat_lt s (length cs) ≡ t → s < length cs) [
  | true ↦ (λ k. grind (arith, nat_tests))
  | false ↦ (λ k. let past : length cs ≤ s = grind (arith, nat_tests) in absurd (let z : None ≡ Some e = sym (get_or_past cs s None past) ∙ h in cc))
] refl

-- an entry that belongs in a bucket
pub belongs-some : (m b : ℕ) (o : Option Deadline) → 0 < belongs m b o → (e : Deadline) × (o ≡ Some e) × (bucket_of m e.at ≡ b)
belongs-some m b None h = absurd (omega (arith, h))
belongs-some m b (Some e) h = elim (bucket_of m e.at == b) as (λ t. (bucket_of m e.at == b) ≡ t → 0 < one_if t → (d : Deadline) × (Some e ≡ Some d) × (bucket_of m d.at ≡ b)) [
  | true ↦ (λ k l. (e, refl, same (bucket_of m e.at) b k))
  | false ↦ (λ k l. absurd (omega (arith, l)))
] refl h

pub belongs-none : (m b : ℕ) (o : Option Deadline) → belongs m b o ≡ 0 → (e : Deadline) → o ≡ Some e → bucket_of m e.at ≡ b → ⊥
belongs-none m b o z e h k =
    let one : belongs m b o ≡ 1 = ap (belongs m b) h ∙ ap one_if (here (bucket_of m e.at) b k) in
    absurd (omega (arith, z, one))
  where
    here : (x y : ℕ) → x ≡ y → (x == y) ≡ true
    here x y h = grind (arith, nat_tests)

pub pulled-none : (s : SlotEntries) (es : List Deadline) → IsPulled s es s es
pulled-none s es = record { turned = refl; slots = refl; fewer = λ i e h. h; moved = λ p. refl }

cell_of : (p : Deadline → Bool) (o : Option Deadline) (e : Deadline) → o ≡ Some e → in_cell p o ≡ one_if (p e)
cell_of p o e h = ap (in_cell p) h

set-none : (cs : List (Option Deadline)) (slot : ℕ) (e : Deadline) → cell_at slot cs ≡ Some e → (p : Deadline → Bool) → count_cells p (set cs slot None) + one_if (p e) ≡ count_cells p cs
set-none cs slot e h p = let c = cells-set p cs slot None (some-inside cs slot e h) in let k = cell_of p (cell_at slot cs) e h in omega (arith, c, k)

pub pulled-one : (s : SlotEntries) (es : List Deadline) (t : SlotEntries) (fs : List Deadline) (slot : ℕ) (e : Deadline) → IsPulled s es t fs → cell_at slot t.cells ≡ Some e → IsPulled s es (record t { cells = set t.cells slot None }) (fs ++ e ∷ [])
pulled-one s es t fs slot e r h = record {
  turned = r.turned;
  slots = length-set t.cells slot None ∙ r.slots;
  fewer = λ i d k. elim (equal_or i slot) [
    | inl q ↦ absurd (let z : None ≡ Some d = sym (subst (λ (j : ℕ). cell_at j (set t.cells slot None) ≡ None) (sym q) (get_or-set_same t.cells slot None None (some-inside t.cells slot e h))) ∙ k in cc)
    | inr ne ↦ r.fewer i d (sym (get_or-set_other t.cells slot i None None ne) ∙ k)
  ];
  moved = λ p. let c = set-none t.cells slot e h p in let m = r.moved p in let a = tally-append p fs (e ∷ []) in let o = tally-cons p e [] in omega (arith, c, m, a, o);
}

pub pulled-more : (s : SlotEntries) (es : List Deadline) (t : SlotEntries) (fs : List Deadline) (u : SlotEntries) (gs : List Deadline) → IsPulled s es t fs → IsPulled t fs u gs → IsPulled s es u gs
pulled-more s es t fs u gs r q = record {
  turned = q.turned ∙ r.turned;
  slots = q.slots ∙ r.slots;
  fewer = λ i d k. r.fewer i d (q.fewer i d k);
  moved = λ p. q.moved p ∙ r.moved p;
}

-- the room that is wanted stays the same
pub pulled-room : (s : SlotEntries) (es : List Deadline) (t : SlotEntries) (fs : List Deadline) → IsPulled s es t fs → length fs + count_cells (λ d. true) t.cells ≡ length es + count_cells (λ d. true) s.cells
pulled-room s es t fs r = let m = r.moved (λ d. true) in let a = tally-all fs in let b = tally-all es in omega (arith, m, a, b)

pub held-one : (cs : List (Option Deadline)) (slot : ℕ) (e : Deadline) → cell_at slot cs ≡ Some e → count_cells (λ d. true) (set cs slot None) + 1 ≡ count_cells (λ d. true) cs
held-one cs slot e h = set-none cs slot e h (λ d. true)

-- an empty bucket stays empty
pub empty-fewer : (s : SlotEntries) (es : List Deadline) (t : SlotEntries) (fs : List Deadline) (b slot : ℕ) → IsPulled s es t fs → belongs s.turned b (cell_at slot s.cells) ≡ 0 → belongs t.turned b (cell_at slot t.cells) ≡ 0
empty-fewer s es t fs b slot r z = ap (λ (m : ℕ). belongs m b (cell_at slot t.cells)) r.turned ∙ by_cell (cell_at slot t.cells) (r.fewer slot)
  where
    by_cell : (o : Option Deadline) → ((e : Deadline) → o ≡ Some e → cell_at slot s.cells ≡ Some e) → belongs s.turned b o ≡ 0
    by_cell None f = refl
    by_cell (Some e) f = sym (ap (belongs s.turned b) (f e refl)) ∙ z

-- ---- What stays

outside : (low high b : ℕ) → (low ≤ b → b < high → ⊥) → (b < low) ⊎ (high ≤ b)
outside low high b h = elim (nat_lt b low) as (λ t. nat_lt b low ≡ t → (b < low) ⊎ (high ≤ b)) [
  | true ↦ (λ k. inl (grind (arith, nat_tests)))
  | false ↦ (λ k. elim (nat_lt b high) as (λ t. nat_lt b high ≡ t → (b < low) ⊎ (high ≤ b)) [
    | true ↦ (λ l. absurd (h (grind (arith, nat_tests)) (grind (arith, nat_tests))))
    | false ↦ (λ l. inr (grind (arith, nat_tests)))
  ] refl)
] refl

pub stays : (now low high low' high' : ℕ) (s : SlotEntries) → ((at : ℕ) → IsOutside low high low' high' (bucket_of s.turned at) → StaysAt s.turned now at)
    → AreEmpty low high s → AreEmpty low' high' s → AllStay now s
stays now low high low' high' s h e e' slot d k =
    let b = bucket_of s.turned d.at in
    h d.at (outside low high b (λ l m. belongs-none s.turned b (cell_at slot s.cells) (e b slot l m) d k refl), outside low' high' b (λ l m. belongs-none s.turned b (cell_at slot s.cells) (e' b slot l m) d k refl))

-- ---- Going back

pub own-count : (cs : List (Option Deadline)) → AreOwn cs → (s : ℕ) (e : Deadline) → cell_at s cs ≡ Some e → 0 < count_cells (is_of s) cs
own-count cs own s e h = counted cs s e h (own s e h)
  where
    here : (x y : ℕ) → x ≡ y → (x == y) ≡ true
    here x y h = grind (arith, nat_tests)

    counted : (ds : List (Option Deadline)) (i : ℕ) (d : Deadline) → cell_at i ds ≡ Some d → d.op.slot ≡ s → 0 < count_cells (is_of s) ds
    counted [] i d k q = absurd (cc)
    counted (None ∷ ds) zero d k q = absurd (cc)
    counted (Some x ∷ ds) zero d k q = let z : x ≡ d = cc in let t = ap one_if (here x.op.slot s (ap (λ (y : Deadline). y.op.slot) z ∙ q)) in omega (arith, t)
    counted (None ∷ ds) (suc i) d k q = counted ds i d k q
    counted (Some x ∷ ds) (suc i) d k q = let r = counted ds i d k q in omega (arith, r)

-- the last entry's slot is one of the slots, and free
pub last-free : (s : SlotEntries) (es : List Deadline) (e : Deadline) → AreOwn s.cells → AreApart s (es ++ e ∷ []) → (e.op.slot < length s.cells) × (cell_at e.op.slot s.cells ≡ None)
last-free s es e own a = (inside, free (cell_at e.op.slot s.cells) refl)
  where
    self_test : (x : ℕ) → (x == x) ≡ true
    self_test x = grind (arith, nat_tests)

    here : 0 < tally (is_of e.op.slot) (es ++ e ∷ [])
    here = let t = tally-append (is_of e.op.slot) es (e ∷ []) in let c = tally-cons (is_of e.op.slot) e [] in let o = ap one_if (self_test e.op.slot) in omega (arith, t, c, o)

    inside : e.op.slot < length s.cells
    inside = elim (nat_lt e.op.slot (length s.cells)) as (λ t. nat_lt e.op.slot (length s.cells) ≡ t → e.op.slot < length s.cells) [
      | true ↦ (λ k. grind (arith, nat_tests))
      | false ↦ (λ k. let past : length s.cells ≤ e.op.slot = grind (arith, nat_tests) in let z = a.inside e.op.slot past in let h = here in absurd (omega (arith, z, h)))
    ] refl

    free : (o : Option Deadline) → cell_at e.op.slot s.cells ≡ o → cell_at e.op.slot s.cells ≡ None
    free None h = h
    free (Some d) h = absurd (let c = own-count s.cells own e.op.slot d h in let z = a.once e.op.slot in let k = here in omega (arith, c, z, k))

-- it goes back
pub put-counts : (cs : List (Option Deadline)) (e : Deadline) → e.op.slot < length cs → cell_at e.op.slot cs ≡ None → (p : Deadline → Bool) → count_cells p (set cs e.op.slot (Some e)) ≡ one_if (p e) + count_cells p cs
put-counts cs e l h p = let c = cells-set p cs e.op.slot (Some e) l in let z = ap (in_cell p) h in omega (arith, c, z)

pub apart-back : (s : SlotEntries) (es : List Deadline) (e : Deadline) → AreOwn s.cells → AreApart s (es ++ e ∷ []) → AreApart (record s { cells = set s.cells e.op.slot (Some e) }) es
apart-back s es e own a =
    let f = last-free s es e own a in
    record {
      once = λ slot. let o = a.once slot in let t = tally-append (is_of slot) es (e ∷ []) in let c = tally-cons (is_of slot) e [] in let k = put-counts s.cells e f.0 f.1 (is_of slot) in omega (arith, o, t, c, k);
      inside = λ slot l. let o = a.inside slot (omega (arith, l, length-set s.cells e.op.slot (Some e))) in let t = tally-append (is_of slot) es (e ∷ []) in omega (arith, o, t);
    }
