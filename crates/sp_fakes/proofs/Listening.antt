-- A listener that is added has the next number.
use Rattle.std.proofs.Common.{◌≡◌, ◌≤◌, ◌<◌, ◌+◌, ℕ, zero, suc, true, false, cond, eqb, List, [], ◌∷◌, length, Some, None, inl, inr, refl, sym, ap, ◌∙◌, arith}
use Rattle.std.specs.Prelude.{slice_get}
use Rattle.std.specs.FinMap.{FinMap, get, insert, get-insert, get-empty}
use Rattle.std.specs.Ordering.{nat_cmp, eq_by_cmp, is_eq}
use Rattle.std.specs.Cmp.{nat_cmp_total}
use Rattle.std.specs.declared.cmp.Ordering.TheVariants.{Less, Equal, Greater}
use Rattle.std.proofs.lemmas.Bool.{le-ltb, lt-ltb, ne_eqb, eq-eqb, cases_lt}
use Rattle.std.proofs.lemmas.Option.{slice_get_past}
use Rattle.sp_base.specs.declared.addr.Scheme.{Scheme}
use Rattle.sp_base.specs.Listeners.{numbered_from, IsAdded}

above : (q n : ℕ) → n < q → eq_by_cmp nat_cmp q n ≡ false
above q n lt =
    ap (λ b. is_eq (cond b Less (cond (eqb q n) Equal Greater))) (le-ltb q n (omega arith))
    ∙ ap (λ b. is_eq (cond b Equal Greater)) (ne_eqb q n (λ e. omega (arith, e)))

below : (q n : ℕ) → q < n → eq_by_cmp nat_cmp q n ≡ false
below q n lt = ap (λ b. is_eq (cond b Less (cond (eqb q n) Equal Greater))) (lt-ltb q n lt)

same_number : (n : ℕ) → eq_by_cmp nat_cmp n n ≡ true
same_number n =
    ap (λ b. is_eq (cond b Less (cond (eqb n n) Equal Greater))) (le-ltb n n (omega arith))
    ∙ ap (λ b. is_eq (cond b Equal Greater)) (eq-eqb n n refl)

-- what a list has at the number of a place
numbered : (n k : ℕ) (xs : List Scheme) → get (numbered_from n xs) (n + k) ≡ slice_get xs k
numbered n k [] = get-empty nat_cmp (n + k)
numbered n zero (x ∷ xs) =
    get-insert nat_cmp_total (numbered_from (n + 1) xs) n x (n + 0)
    ∙ ap (λ m. cond (eq_by_cmp nat_cmp m n) (Some x) (get (numbered_from (n + 1) xs) m)) (omega arith)
    ∙ ap (λ b. cond b (Some x) (get (numbered_from (n + 1) xs) n)) (same_number n)
numbered n (suc k) (x ∷ xs) =
    get-insert nat_cmp_total (numbered_from (n + 1) xs) n x (n + suc k)
    ∙ ap (λ b. cond b (Some x) (get (numbered_from (n + 1) xs) (n + suc k))) (above (n + suc k) n (omega arith))
    ∙ ap (get (numbered_from (n + 1) xs)) (omega arith)
    ∙ numbered (n + 1) k xs

at_number : (xs : List Scheme) (k : ℕ) → get (numbered_from 0 xs) k ≡ slice_get xs k
at_number xs k = ap (get (numbered_from 0 xs)) (omega arith) ∙ numbered 0 k xs

stands : (xs : List Scheme) (k : ℕ) → k < length xs → ¬ (slice_get xs k ≡ None)
stands [] k lt e = omega (arith, lt)
stands (x ∷ xs) zero lt e = cc
stands (x ∷ xs) (suc k) lt e = stands xs k (omega (arith, lt)) e

-- there is nothing after the last one
past_end : (xs : List Scheme) (k : ℕ) → slice_get xs k ≡ None → length xs ≤ k
past_end xs k e = elim (cases_lt k (length xs)) [
  | inl lt ↦ absurd (stands xs k lt e)
  | inr le ↦ le
]

-- another number keeps what it had
kept : (xs xs' : List Scheme) (scheme : Scheme) (n k : ℕ) → numbered_from 0 xs' ≡ insert (numbered_from 0 xs) n scheme → eq_by_cmp nat_cmp k n ≡ false → slice_get xs' k ≡ slice_get xs k
kept xs xs' scheme n k e other =
    sym (at_number xs' k) ∙ ap (λ (m : FinMap nat_cmp Scheme). get m k) e
    ∙ get-insert nat_cmp_total (numbered_from 0 xs) n scheme k
    ∙ ap (λ b. cond b (Some scheme) (get (numbered_from 0 xs) k)) other
    ∙ at_number xs k

new_one : (xs xs' : List Scheme) (scheme : Scheme) (n : ℕ) → numbered_from 0 xs' ≡ insert (numbered_from 0 xs) n scheme → slice_get xs' n ≡ Some scheme
new_one xs xs' scheme n e =
    sym (at_number xs' n) ∙ ap (λ (m : FinMap nat_cmp Scheme). get m n) e
    ∙ get-insert nat_cmp_total (numbered_from 0 xs) n scheme n
    ∙ ap (λ b. cond b (Some scheme) (get (numbered_from 0 xs) n)) (same_number n)

at_most : (xs xs' : List Scheme) (scheme : Scheme) (n : ℕ) → numbered_from 0 xs' ≡ insert (numbered_from 0 xs) n scheme → n < length xs' → n ≤ length xs
at_most xs xs' scheme n e lt = elim (cases_lt (length xs) n) [
  | inl less ↦ absurd (stands xs' (length xs) (omega (arith, less, lt)) (kept xs xs' scheme n (length xs) e (below (length xs) n less) ∙ slice_get_past xs (length xs) (omega arith)))
  | inr le ↦ le
]

one_longer : (xs xs' : List Scheme) (scheme : Scheme) (n : ℕ) → numbered_from 0 xs' ≡ insert (numbered_from 0 xs) n scheme → length xs ≤ n → length xs' ≤ n + 1
one_longer xs xs' scheme n e le = elim (cases_lt (n + 1) (length xs')) [
  | inl more ↦ absurd (stands xs' (n + 1) more (kept xs xs' scheme n (n + 1) e (above (n + 1) n (omega arith)) ∙ slice_get_past xs (n + 1) (omega (arith, le))))
  | inr few ↦ few
]

within : (xs : List Scheme) (k : ℕ) (x : Scheme) → slice_get xs k ≡ Some x → k < length xs
within xs k x e = elim (cases_lt k (length xs)) [
  | inl lt ↦ lt
  | inr le ↦ let none = slice_get_past xs k le in absurd cc
]

pub next_number : (xs xs' : List Scheme) (scheme : Scheme) (n : ℕ) → IsAdded scheme (numbered_from 0 xs) (numbered_from 0 xs') n → (n ≡ length xs) × (length xs' ≡ length xs + 1)
next_number xs xs' scheme n added =
    let least : length xs ≤ n = past_end xs n (sym (at_number xs n) ∙ added.0) in
    let lt : n < length xs' = within xs' n scheme (new_one xs xs' scheme n added.1) in
    let most : n ≤ length xs = at_most xs xs' scheme n added.1 lt in
    let longer : length xs' ≤ n + 1 = one_longer xs xs' scheme n added.1 least in
    (omega (arith, least, most), omega (arith, lt, longer, least, most))

no_more : (xs xs' : List Scheme) → numbered_from 0 xs' ≡ numbered_from 0 xs → length xs' ≤ length xs
no_more xs xs' e = elim (cases_lt (length xs) (length xs')) [
  | inl more ↦ absurd (stands xs' (length xs) more (sym (at_number xs' (length xs)) ∙ ap (λ (m : FinMap nat_cmp Scheme). get m (length xs)) e ∙ at_number xs (length xs) ∙ slice_get_past xs (length xs) (omega arith)))
  | inr few ↦ few
]

pub as_many : (xs xs' : List Scheme) → numbered_from 0 xs' ≡ numbered_from 0 xs → length xs' ≡ length xs
as_many xs xs' e = omega (arith, no_more xs xs' e, no_more xs' xs (sym e))
