-- What holds for each element of a list, by place.
use Rattle.std.proofs.Common.{List, [], ◌∷◌, ℕ, suc, zero, ◌<◌, length, slice_index_or, arith}
use Rattle.aio_word.specs.Views.{Each}

pub at_place : {A : Type 0} (P : A → Type 0) (xs : List A) → Each P xs → (i : ℕ) (d : A) → i < length xs → P (slice_index_or xs i d)
at_place P [] e i d lt = absurd (omega (arith, lt))
at_place P (x ∷ xs) e zero d lt = e.0
at_place P (x ∷ xs) e (suc i) d lt = at_place P xs e.1 i d (omega (arith, lt))

pub by_places : {A : Type 0} (P : A → Type 0) (xs : List A) → ((i : ℕ) (d : A) → i < length xs → P (slice_index_or xs i d)) → Each P xs
by_places P [] f = tt
by_places P (x ∷ xs) f = (f zero x (omega arith), by_places P xs (λ i d lt. f (suc i) d (omega (arith, lt))))
