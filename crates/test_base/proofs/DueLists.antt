-- Calls that are allowed one after another, and slots that are in a list.
use Rattle.std.proofs.Common.{◌≡◌, refl, ap, sym, ◌∙◌, subst, Option, None, Some, List, [], ◌∷◌, ◌++◌, ℕ, ◌+◌, ◌<◌, Bool, true, false, cond, arith, length}
use Rattle.std.specs.Prelude.{filter, not, ◌==◌, slice_get}
use Rattle.std.proofs.lemmas.Bool.Decides.{nat_tests}
use Rattle.aio_expire.specs.declared.deadlines.Deadline.{Deadline}
use Rattle.aio_expire.specs.declared.due.DueCall.{DueCall}
use Rattle.aio_expire.specs.declared.due.DueCall.TheVariants.{Remove, Due}
use Rattle.aio_expire.specs.Buckets.{count_in, after, one_if, list_at, IsListed}
use Rattle.aio_expire.specs.DueCalls.{AreAllowed, after_call}

-- no element that failed the test passes it
pub none_left : {X : Type 0} (p : X → Bool) (xs : List X) → length (filter p (filter (λ x. not (p x)) xs)) ≡ 0
none_left p [] = refl
none_left p (x ∷ xs) =
    let more = none_left p xs in
    elim (p x) as (λ t. p x ≡ t → length (filter p (filter (λ y. not (p y)) (x ∷ xs))) ≡ 0) [ true ↦ (λ h. rw h more) | false ↦ (λ h. rw h (rw h more)) ] refl

-- calls that are always allowed may follow
pub allowed_append : (n : ℕ) (xs ys : List DueCall) (es : List Deadline) → AreAllowed n xs es → ((fs : List Deadline) → AreAllowed n ys fs) → AreAllowed n (xs ++ ys) es
allowed_append n [] ys es h more = more es
allowed_append n (x ∷ xs) ys es h more = (h.0, allowed_append n xs ys (after_call x es) h.1 more)

-- naming what is due, and then taking a deadline out, is always allowed
pub allowed_end : (n at slot : ℕ) (es : List Deadline) → AreAllowed n (Due at ∷ Remove slot ∷ []) es
allowed_end n at slot es = (tt, (tt, tt))

counted_first : (s : ℕ) (xs : List ℕ) → slice_get xs 0 ≡ Some s → 0 < count_in s xs
counted_first s [] h = absurd cc
counted_first s (x ∷ xs) h =
    let is : x ≡ s = cc in
    let same : (x == s) ≡ true = is_it x s is in
    rw same (omega arith)
  where
    is_it : (m n : ℕ) → m ≡ n → (m == n) ≡ true
    is_it m n e = grind (arith, nat_tests)

counted_after : (slot s : ℕ) (xs : List ℕ) → after slot xs ≡ Some s → 0 < count_in s xs
counted_after slot s [] h = absurd cc
counted_after slot s (x ∷ xs) h = go (x == slot) h (counted_after slot s xs)
  where
    go : (b : Bool) → cond b (slice_get xs 0) (after slot xs) ≡ Some s → (after slot xs ≡ Some s → 0 < count_in s xs) → 0 < one_if (x == s) + count_in s xs
    go true k again = omega (arith, counted_first s xs k)
    go false k again = omega (arith, again k)

-- the first slot of a list is in it, and so is the one that follows a slot
pub first_listed : (bucket s : ℕ) (lists : List (List ℕ)) (r : Option ℕ) → bucket < 513 → r ≡ slice_get (list_at bucket lists) 0 → r ≡ Some s → IsListed s lists
first_listed bucket s lists r l h e = (bucket, l, counted_first s (list_at bucket lists) (sym h ∙ e))

pub next_listed : (slot s : ℕ) (lists : List (List ℕ)) (r : Option ℕ) → IsListed slot lists → ((b : ℕ) → 0 < count_in slot (list_at b lists) → r ≡ after slot (list_at b lists)) → r ≡ Some s → IsListed s lists
next_listed slot s lists r k h e = (k.0, k.1, counted_after slot s (list_at k.0 lists) (sym (h k.0 k.2) ∙ e))
