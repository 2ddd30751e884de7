-- How far the full pipes of a push reach, as its list changes.
use Rattle.std.proofs.Common.{◌≡◌, refl, ap, sym, ◌∙◌, subst, List, [], ◌∷◌, ◌++◌, ℕ, zero, suc, ◌+◌, ◌-◌, ◌<◌, ◌≤◌, Bool, true, false, cond, arith, Option, Some, None, length, map, slice_index_or, slice_set, take, drop, length-append, length-set}
use Rattle.std.specs.Prelude.{find, filter, not, MatchOption, nat_lt, remove, ◌||◌, ◌==◌}
use Rattle.std.specs.List.{list_any, position}
use Rattle.std.proofs.lemmas.Bool.Decides.{nat_tests}
use Rattle.std.proofs.lemmas.List.{get_or-set_same, get_or-set_other, length-map}
use Rattle.std.proofs.lemmas.List.Edits.{length-remove, get_or-remove_below, get_or-remove_above}
use Rattle.std.proofs.Math.ListN.{get_or-append}
use Rattle.std.proofs.Math.Seq.{get_or-append_seam}
use Rattle.sp_history.specs.Lists.{has, without}
use Rattle.sp_history.specs.Once.{AreDistinct}
use Rattle.proto_pipeline.specs.declared.push.Port.{Port}
use Rattle.proto_pipeline.specs.declared.push.Marks.{Marks}
use Rattle.proto_pipeline.specs.Pushes.{port_of, marked, cleared, is_free, is_port, pipes_of, less_by, IsLater, IsPortAt, AreMarked}
use Rattle.proto_pipeline.proofs.Ports.{has_append}
use Rattle.std.proofs.lemmas.List.Quantifiers.{position-Some}
use Rattle.proto_pipeline.proofs.FirstThatPasses.{not_found}
use Rattle.proto_pipeline.proofs.Reserved as reserved

equal_of : (m n : ℕ) → (m == n) ≡ true → m ≡ n
equal_of m n h = grind (arith, nat_tests)

turned : (m n : ℕ) (b : Bool) → (m == n) ≡ b → (n == m) ≡ b
turned m n true h = grind (arith, nat_tests)
turned m n false h = grind (arith, nat_tests)

same_number : (n : ℕ) → (n == n) ≡ true
same_number n = grind (arith, nat_tests)

-- ---- Pipes that occur once

pub pipes_are : (full : ℕ → Bool) (vs : List ℕ) → pipes_of (map (port_of full) vs) ≡ vs
pipes_are full [] = refl
pipes_are full (v ∷ vs) = ap (λ (rest : List ℕ). v ∷ rest) (pipes_are full vs)

not_left : (vs : List ℕ) (p : ℕ) → has (without vs p) p ≡ false
not_left [] p = refl
not_left (v ∷ vs) p = go (v == p) refl (not_left vs p)
  where
    go : (b : Bool) → (v == p) ≡ b → has (without vs p) p ≡ false → has (cond (not b) (v ∷ without vs p) (without vs p)) p ≡ false
    go true e h = h
    go false e h = ap (λ (c : Bool). c || has (without vs p) p) e ∙ h

apart_pipe : (vs : List ℕ) (p : ℕ) → AreDistinct vs → has vs p ≡ false → AreDistinct (vs ++ p ∷ [])
apart_pipe [] p d n = (refl, tt)
apart_pipe (v ∷ vs) p d n = go (v == p) refl n (apart_pipe vs p d.1)
  where
    go : (b : Bool) → (v == p) ≡ b → (b || has vs p) ≡ false → (has vs p ≡ false → AreDistinct (vs ++ p ∷ [])) → AreDistinct (v ∷ vs ++ p ∷ [])
    go true e k again = absurd cc
    go false e k again = (has_append vs p v ∙ ap (λ (c : Bool). c || ((p == v) || false)) d.0 ∙ ap (λ (c : Bool). c || false) (turned v p false e), again k)

pub apart_last : (vs : List ℕ) (p : ℕ) → AreDistinct vs → AreDistinct (without vs p ++ p ∷ [])
apart_last vs p d = apart_pipe (without vs p) p (reserved.apart_without vs p d) (not_left vs p)

-- ---- One pipe of the list

pub none_marked : (p : ℕ) (xs : List Port) → list_any (is_port p) xs ≡ false → xs ≡ map (marked p) xs
none_marked p [] h = refl
none_marked p (x ∷ xs) h = go (x.pipe == p) refl h (none_marked p xs)
  where
    go : (b : Bool) → (x.pipe == p) ≡ b → (b || list_any (is_port p) xs) ≡ false → (list_any (is_port p) xs ≡ false → xs ≡ map (marked p) xs) → x ∷ xs ≡ marked p x ∷ map (marked p) xs
    go true e k again = absurd cc
    go false e k again =
        let one : x ≡ marked p x = ap (λ (f : Bool). let y : Port = record { pipe = x.pipe; is_full = f } in y) (sym (ap (λ (b : Bool). b || x.is_full) (turned x.pipe p false e))) in
        ap (λ (y : Port). y ∷ xs) one ∙ ap (λ (ys : List Port). marked p x ∷ ys) (again k)

pub none_forgot : (p : ℕ) (xs : List Port) → list_any (is_port p) xs ≡ false → xs ≡ filter (λ (x : Port). not (x.pipe == p)) xs
none_forgot p [] h = refl
none_forgot p (x ∷ xs) h = go (x.pipe == p) h (none_forgot p xs)
  where
    go : (b : Bool) → (b || list_any (is_port p) xs) ≡ false → (list_any (is_port p) xs ≡ false → xs ≡ filter (λ (y : Port). not (y.pipe == p)) xs) → x ∷ xs ≡ cond (not b) (x ∷ filter (λ (y : Port). not (y.pipe == p)) xs) (filter (λ (y : Port). not (y.pipe == p)) xs)
    go true k again = absurd cc
    go false k again = ap (λ (ys : List Port). x ∷ ys) (again k)

-- the others have other numbers
no_other : (xs : List Port) (p : ℕ) → has (pipes_of xs) p ≡ false → list_any (is_port p) xs ≡ false
no_other [] p h = refl
no_other (x ∷ xs) p h = go (x.pipe == p) h (no_other xs p)
  where
    go : (b : Bool) → (b || has (pipes_of xs) p) ≡ false → (has (pipes_of xs) p ≡ false → list_any (is_port p) xs ≡ false) → (b || list_any (is_port p) xs) ≡ false
    go true k again = absurd cc
    go false k again = again k

stands : (xs : List Port) (p i : ℕ) (d : Port) → i < length xs → (slice_index_or xs i d).pipe ≡ p → has (pipes_of xs) p ≡ true
stands [] p i d l e = absurd (omega arith)
stands (x ∷ xs) p zero d l e = ap (λ (q : ℕ). (q == p) || has (pipes_of xs) p) e ∙ ap (λ (b : Bool). b || has (pipes_of xs) p) (same_number p)
stands (x ∷ xs) p (suc i) d l e = go (x.pipe == p) (stands xs p i d (omega (arith, l)) e)
  where
    go : (b : Bool) → has (pipes_of xs) p ≡ true → (b || has (pipes_of xs) p) ≡ true
    go true k = refl
    go false k = k

-- it isn't followed by another one of the same number
not_it : (x : Port) (xs : List Port) (p i : ℕ) (d : Port) → has (pipes_of xs) x.pipe ≡ false → i < length xs → (slice_index_or xs i d).pipe ≡ p → (x.pipe == p) ≡ false
not_it x xs p i d n l e = go (x.pipe == p) refl
  where
    go : (b : Bool) → (x.pipe == p) ≡ b → b ≡ false
    go false f = refl
    go true f = let here : has (pipes_of xs) x.pipe ≡ true = ap (has (pipes_of xs)) (equal_of x.pipe p f) ∙ stands xs p i d l e in absurd cc

pub one_marked : (p : ℕ) (xs : List Port) (i : ℕ) (d : Port) → AreDistinct (pipes_of xs) → i < length xs → (slice_index_or xs i d).pipe ≡ p → slice_set xs i (record { pipe = (slice_index_or xs i d).pipe; is_full = true }) ≡ map (marked p) xs
one_marked p [] i d a l e = absurd (omega arith)
one_marked p (x ∷ xs) zero d a l e =
    let itself : (p == x.pipe) ≡ true = ap (λ (q : ℕ). p == q) e ∙ same_number p in
    let rest : xs ≡ map (marked p) xs = none_marked p xs (no_other xs p (ap (has (pipes_of xs)) (sym e) ∙ a.0)) in
    ap (λ (b : Bool). let y : Port = record { pipe = x.pipe; is_full = b || x.is_full } in y ∷ xs) (sym itself) ∙ ap (λ (ys : List Port). marked p x ∷ ys) rest
one_marked p (x ∷ xs) (suc i) d a l e =
    let no : (x.pipe == p) ≡ false = not_it x xs p i d a.0 (omega (arith, l)) e in
    let one : x ≡ marked p x = ap (λ (f : Bool). let y : Port = record { pipe = x.pipe; is_full = f } in y) (sym (ap (λ (b : Bool). b || x.is_full) (turned x.pipe p false no))) in
    ap (λ (ys : List Port). x ∷ ys) (one_marked p xs i d a.1 (omega (arith, l)) e) ∙ ap (λ (y : Port). y ∷ map (marked p) xs) one

pub one_forgot : (p : ℕ) (xs : List Port) (i : ℕ) (d : Port) → AreDistinct (pipes_of xs) → i < length xs → (slice_index_or xs i d).pipe ≡ p → remove xs i ≡ filter (λ (x : Port). not (x.pipe == p)) xs
one_forgot p [] i d a l e = absurd (omega arith)
one_forgot p (x ∷ xs) zero d a l e =
    let itself : (x.pipe == p) ≡ true = ap (λ (q : ℕ). q == p) e ∙ same_number p in
    rw itself (none_forgot p xs (no_other xs p (ap (has (pipes_of xs)) (sym e) ∙ a.0)))
one_forgot p (x ∷ xs) (suc i) d a l e =
    let no : (x.pipe == p) ≡ false = not_it x xs p i d a.0 (omega (arith, l)) e in
    rw no (ap (λ (ys : List Port). x ∷ ys) (one_forgot p xs i d a.1 (omega (arith, l)) e))

-- ---- The marks

module _ (m n : Marks) (xs : List Port) (h : AreMarked m xs) where
  pub marks_with : (i : ℕ) (y : Port) → i < length xs → y.is_full ≡ true → n.full ≡ m.full → IsLater m.rest (i + 1) n.rest → AreMarked n (slice_set xs i y)
  marks_with i y l t same later = record {
    full_in = omega (arith, same, h.full_in, length-set xs i y);
    rest_in = let most = later.2 (length xs) h.rest_in (omega (arith, l)) in omega (arith, most, length-set xs i y);
    full = λ k d low. at_full k d (omega (arith, low, same)) (k == i) refl;
    rest = λ k d high inside. ap (λ (x : Port). x.is_full) (get_or-set_other xs i k y d (λ e. absurd (omega (arith, high, later.1, e)))) ∙ h.rest k d (omega (arith, high, later.0)) (omega (arith, inside, length-set xs i y));
  }
    where
      at_full : (k : ℕ) (d : Port) → k < m.full → (b : Bool) → (k == i) ≡ b → (slice_index_or (slice_set xs i y) k d).is_full ≡ true
      at_full k d low true e = subst (λ (j : ℕ). (slice_index_or (slice_set xs i y) j d).is_full ≡ true) (sym (equal_of k i e)) (ap (λ (x : Port). x.is_full) (get_or-set_same xs i y d l) ∙ t)
      at_full k d low false e = ap (λ (x : Port). x.is_full) (get_or-set_other xs i k y d (λ q. absurd (grind (arith, nat_tests)))) ∙ h.full k d low

  pub marks_without : (i : ℕ) → i < length xs → n.full ≡ less_by i m.full → n.rest ≡ less_by i m.rest → AreMarked n (remove xs i)
  marks_without i l f r = record {
    full_in = full_in (nat_lt i m.full) refl f;
    rest_in = rest_in (nat_lt i m.rest) refl r;
    full = λ k d low. at_full k d low (nat_lt i m.full) refl f (nat_lt k i) refl;
    rest = λ k d high inside. at_rest k d high inside (nat_lt i m.rest) refl r (nat_lt k i) refl;
  }
    where
      less : length (remove xs i) + 1 ≡ length xs
      less = length-remove xs i l

      full_in : (b : Bool) → nat_lt i m.full ≡ b → n.full ≡ cond b (m.full - 1) m.full → n.full ≤ length (remove xs i)
      full_in true e q = let above : i < m.full = grind (arith, nat_tests) in omega (arith, above, q, h.full_in, length-remove xs i l)
      full_in false e q = let below : m.full ≤ i = grind (arith, nat_tests) in omega (arith, below, q, l, length-remove xs i l)

      rest_in : (b : Bool) → nat_lt i m.rest ≡ b → n.rest ≡ cond b (m.rest - 1) m.rest → n.rest ≤ length (remove xs i)
      rest_in true e q = let above : i < m.rest = grind (arith, nat_tests) in omega (arith, above, q, h.rest_in, length-remove xs i l)
      rest_in false e q = let below : m.rest ≤ i = grind (arith, nat_tests) in omega (arith, below, q, l, length-remove xs i l)

      at_full : (k : ℕ) (d : Port) → k < n.full → (b : Bool) → nat_lt i m.full ≡ b → n.full ≡ cond b (m.full - 1) m.full → (c : Bool) → nat_lt k i ≡ c → (slice_index_or (remove xs i) k d).is_full ≡ true
      at_full k d low b e q true g =
          let before : k < i = grind (arith, nat_tests) in
          ap (λ (x : Port). x.is_full) (get_or-remove_below xs i d k before l) ∙ h.full k d (in_full b e q)
        where
          in_full : (b : Bool) → nat_lt i m.full ≡ b → n.full ≡ cond b (m.full - 1) m.full → k < m.full
          in_full true e q = omega (arith, low, q)
          in_full false e q = omega (arith, low, q)
      at_full k d low true e q false g =
          let behind : i ≤ k = grind (arith, nat_tests) in
          ap (λ (x : Port). x.is_full) (get_or-remove_above xs i d k behind l) ∙ h.full (k + 1) d (omega (arith, low, q))
      at_full k d low false e q false g =
          let behind : i ≤ k = grind (arith, nat_tests) in
          let below : m.full ≤ i = grind (arith, nat_tests) in
          absurd (omega (arith, low, q, behind, below))

      at_rest : (k : ℕ) (d : Port) → n.rest ≤ k → k < length (remove xs i) → (b : Bool) → nat_lt i m.rest ≡ b → n.rest ≡ cond b (m.rest - 1) m.rest → (c : Bool) → nat_lt k i ≡ c → (slice_index_or (remove xs i) k d).is_full ≡ false
      at_rest k d high inside true e q true g =
          let before : k < i = grind (arith, nat_tests) in
          let above : i < m.rest = grind (arith, nat_tests) in
          absurd (omega (arith, high, q, before, above))
      at_rest k d high inside false e q true g =
          let before : k < i = grind (arith, nat_tests) in
          ap (λ (x : Port). x.is_full) (get_or-remove_below xs i d k before l) ∙ h.rest k d (omega (arith, high, q)) (omega (arith, before, l))
      at_rest k d high inside b e q false g =
          let behind : i ≤ k = grind (arith, nat_tests) in
          ap (λ (x : Port). x.is_full) (get_or-remove_above xs i d k behind l) ∙ h.rest (k + 1) d (later b e q) (omega (arith, inside, length-remove xs i l))
        where
          later : (b : Bool) → nat_lt i m.rest ≡ b → n.rest ≡ cond b (m.rest - 1) m.rest → m.rest ≤ k + 1
          later true e q = omega (arith, high, q)
          later false e q = omega (arith, high, q)

  pub marks_reaching : (i : ℕ) → m.full ≤ i → i ≤ length xs → ((k : ℕ) (d : Port) → m.full ≤ k → k < i → (slice_index_or xs k d).is_full ≡ true) → n.full ≡ i → IsLater m.rest i n.rest → AreMarked n xs
  marks_reaching i low inside all f later = record {
    full_in = omega (arith, f, inside);
    rest_in = later.2 (length xs) h.rest_in inside;
    full = λ k d l. at k d (omega (arith, l, f)) (nat_lt k m.full) refl;
    rest = λ k d l in'. h.rest k d (omega (arith, l, later.0)) in';
  }
    where
      at : (k : ℕ) (d : Port) → k < i → (b : Bool) → nat_lt k m.full ≡ b → (slice_index_or xs k d).is_full ≡ true
      at k d l true e = h.full k d (grind (arith, nat_tests))
      at k d l false e = all k d (grind (arith, nat_tests)) l

pub marks_last : (m : Marks) (xs : List Port) (p : ℕ) → AreMarked m xs → AreMarked m (xs ++ record { pipe = p; is_full = false } ∷ [])
marks_last m xs p h =
    let last : Port = record { pipe = p; is_full = false } in
    let long : length (xs ++ last ∷ []) ≡ length xs + 1 = length-append xs (last ∷ []) in
    record {
      full_in = omega (arith, h.full_in, long);
      rest_in = omega (arith, h.rest_in, long);
      full = λ k d l. ap (λ (x : Port). x.is_full) (get_or-append xs (last ∷ []) d k (omega (arith, l, h.full_in))) ∙ h.full k d l;
      rest = λ k d l inside. at k d l (omega (arith, inside, long)) (nat_lt k (length xs)) refl;
    }
  where
    at : (k : ℕ) (d : Port) → m.rest ≤ k → k < length xs + 1 → (b : Bool) → nat_lt k (length xs) ≡ b → (slice_index_or (xs ++ record { pipe = p; is_full = false } ∷ []) k d).is_full ≡ false
    at k d l inside true e =
        let before : k < length xs = grind (arith, nat_tests) in
        ap (λ (x : Port). x.is_full) (get_or-append xs (record { pipe = p; is_full = false } ∷ []) d k before) ∙ h.rest k d l before
    at k d l inside false e =
        let behind : length xs ≤ k = grind (arith, nat_tests) in
        let here : k ≡ length xs = omega (arith, inside, behind) in
        subst (λ (j : ℕ). (slice_index_or (xs ++ record { pipe = p; is_full = false } ∷ []) j d).is_full ≡ false) (sym here) (ap (λ (x : Port). x.is_full) (get_or-append_seam xs (record { pipe = p; is_full = false }) [] d))

-- none is full
pub marks_none : (m : Marks) (xs : List Port) → m.full ≡ 0 → m.rest ≡ 0 → AreMarked m (map cleared xs)
marks_none m xs f r = record {
  full_in = omega (arith, f);
  rest_in = omega (arith, r);
  full = λ k d l. absurd (omega (arith, l, f));
  rest = λ k d l inside. at xs k d (omega (arith, inside, length-map xs cleared));
}
  where
    at : (ys : List Port) (k : ℕ) (d : Port) → k < length ys → (slice_index_or (map cleared ys) k d).is_full ≡ false
    at [] k d l = absurd (omega arith)
    at (y ∷ ys) zero d l = refl
    at (y ∷ ys) (suc k) d l = at ys k d (omega (arith, l))

-- those after the last full one need no clearing
pub rest_clear : (xs : List Port) → ((k : ℕ) (d : Port) → k < length xs → (slice_index_or xs k d).is_full ≡ false) → xs ≡ map cleared xs
rest_clear [] h = refl
rest_clear (x ∷ xs) h =
    let one : x ≡ cleared x = ap (λ (f : Bool). let y : Port = record { pipe = x.pipe; is_full = f } in y) (h 0 x (omega arith)) in
    ap (λ (y : Port). y ∷ xs) one ∙ ap (λ (ys : List Port). cleared x ∷ ys) (rest_clear xs (λ k d l. h (suc k) d (omega (arith, l))))

-- where those before a place are cleared, and those from it on are not full, all are cleared
pub clear_all : (xs : List Port) (n : ℕ) → ((k : ℕ) (d : Port) → n ≤ k → k < length xs → (slice_index_or xs k d).is_full ≡ false) → map cleared (take n xs) ++ drop n xs ≡ map cleared xs
clear_all [] zero h = refl
clear_all [] (suc n) h = refl
clear_all (x ∷ xs) zero h = rest_clear (x ∷ xs) (λ k d l. h k d (omega arith) l)
clear_all (x ∷ xs) (suc n) h = ap (λ (ys : List Port). cleared x ∷ ys) (clear_all xs n (λ k d low l. h (suc k) d (omega (arith, low)) (omega (arith, l))))

-- ---- The place of a pipe

none_any : (p : ℕ) (xs : List Port) → find (is_port p) xs ≡ None → list_any (is_port p) xs ≡ false
none_any p [] h = refl
none_any p (x ∷ xs) h = go (x.pipe == p) h (none_any p xs)
  where
    go : (b : Bool) → cond b (Some x) (find (is_port p) xs) ≡ None → (find (is_port p) xs ≡ None → list_any (is_port p) xs ≡ false) → (b || list_any (is_port p) xs) ≡ false
    go true k again = absurd cc
    go false k again = again k

pub searched : (p : ℕ) (xs : List Port) (r : Option ℕ) → r ≡ position (is_port p) xs → MatchOption r (list_any (is_port p) xs ≡ false) (λ i. IsPortAt p i xs)
searched p xs None h = none_any p xs (not_found (is_port p) xs (sym h))
searched p xs (Some i) h =
    ((position-Some (is_port p) xs i (record { pipe = 0; is_full = true }) (sym h)).0, λ d. equal_of _ p (position-Some (is_port p) xs i d (sym h)).1)

-- ---- The first that is free

pub none_free : (xs : List Port) → ((k : ℕ) (d : Port) → k < length xs → (slice_index_or xs k d).is_full ≡ true) → find is_free xs ≡ None
none_free [] h = refl
none_free (x ∷ xs) h = rw (h 0 x (omega arith)) (none_free xs (λ k d l. h (suc k) d (omega (arith, l))))

pub first_free : (xs : List Port) (i : ℕ) (d : Port) → i < length xs → ((k : ℕ) (e : Port) → k < i → (slice_index_or xs k e).is_full ≡ true) → (slice_index_or xs i d).is_full ≡ false → find is_free xs ≡ Some (slice_index_or xs i d)
first_free [] i d l h f = absurd (omega arith)
first_free (x ∷ xs) zero d l h f = rw f refl
first_free (x ∷ xs) (suc i) d l h f = rw (h 0 x (omega arith)) (first_free xs i d (omega (arith, l)) (λ k e m. h (suc k) e (omega (arith, m))) f)

-- all before the place that was reached are full
pub all_before : (m : Marks) (xs : List Port) → AreMarked m xs → (i : ℕ) → ((k : ℕ) (d : Port) → m.full ≤ k → k < i → (slice_index_or xs k d).is_full ≡ true) → (k : ℕ) (d : Port) → k < i → (slice_index_or xs k d).is_full ≡ true
all_before m xs h i all k d l = go (nat_lt k m.full) refl
  where
    go : (b : Bool) → nat_lt k m.full ≡ b → (slice_index_or xs k d).is_full ≡ true
    go true e = h.full k d (grind (arith, nat_tests))
    go false e = all k d (grind (arith, nat_tests)) l
