-- The values of the generator, one after another.
use Rattle.std.proofs.Common.{◌≡◌, refl, ap, ◌∙◌, List, [], ◌∷◌, ◌++◌, ℕ, ◌+◌, ◌%◌, ◌^◌, suc, zero, arith, length, map}
use Rattle.std.specs.List.{sum}
use Rattle.std.specs.Int.{w64, to_be_bytes}
use Rattle.sp_base.specs.Generator.{next_value}
use Rattle.std.proofs.lemmas.List.Sums.{fold-append}
use Rattle.cat_drill.specs.DrillWires.{value_after}
use Rattle.cat_play.specs.Drilling.{values_after, values, bodies}

value_next : (x n : ℕ) → value_after x (suc n) ≡ next_value (value_after x n)
value_next x zero = refl
value_next x (suc n) = value_next (next_value x) n

values_next : (x n : ℕ) → values_after x (suc n) ≡ values_after x n ++ next_value (value_after x n) ∷ []
values_next x zero = refl
values_next x (suc n) = ap (λ (xs : List ℕ). next_value x ∷ xs) (values_next (next_value x) n)

map_more : {A B : Type 0} (f : A → B) (xs : List A) (x : A) → map f (xs ++ x ∷ []) ≡ map f xs ++ f x ∷ []
map_more f [] x = refl
map_more f (y ∷ xs) x = ap (λ zs. f y ∷ zs) (map_more f xs x)

pub next_is : (n : ℕ) → value_after 0 (suc n) ≡ next_value (value_after 0 n)
next_is n = value_next 0 n

pub bodies_next : (n : ℕ) → bodies (suc n) ≡ bodies n ++ to_be_bytes w64 (next_value (value_after 0 n)) ∷ []
bodies_next n = ap (map (to_be_bytes w64)) (values_next 0 n) ∙ map_more (to_be_bytes w64) (values n) (next_value (value_after 0 n))

sum_more : (xs : List ℕ) (x : ℕ) → sum (xs ++ x ∷ []) ≡ sum xs + x
sum_more xs x = fold-append (λ (a b : ℕ). a + b) 0 xs (x ∷ [])

pub sum_next : (n : ℕ) → sum (values (suc n)) ≡ sum (values n) + next_value (value_after 0 n)
sum_next n = ap sum (values_next 0 n) ∙ sum_more (values n) (next_value (value_after 0 n))

pub length_bodies : (n : ℕ) → length (bodies n) ≡ n
length_bodies n = go 0 n
  where
    go : (x n : ℕ) → length (map (to_be_bytes w64) (values_after x n)) ≡ n
    go x zero = refl
    go x (suc n) = omega (arith, go (next_value x) n)

-- the sum of one more value, modulo 2^64
pub total_next : (total n : ℕ) → total ≡ sum (values n) % 2 ^ 64 → (total + next_value (value_after 0 n)) % 2 ^ 64 ≡ sum (values (suc n)) % 2 ^ 64
total_next total n h = rw (h, sum_next n) (omega arith)
