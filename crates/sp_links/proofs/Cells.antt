-- The cells of two numbers.
use Rattle.std.proofs.Common.{◌≡◌, ℕ, List, [], ◌∷◌, ◌++◌, slice_index_or, ap, ◌∙◌, refl}
use Rattle.std.specs.Int.{w64, to_be_bytes}

abbrev sixteen_of : List ℕ → List ℕ → List ℕ
sixteen_of r s =
    slice_index_or r 0 0 ∷ slice_index_or r 1 0 ∷ slice_index_or r 2 0 ∷ slice_index_or r 3 0 ∷ slice_index_or r 4 0 ∷ slice_index_or r 5 0 ∷ slice_index_or r 6 0 ∷ slice_index_or r 7 0
    ∷ slice_index_or s 0 0 ∷ slice_index_or s 1 0 ∷ slice_index_or s 2 0 ∷ slice_index_or s 3 0 ∷ slice_index_or s 4 0 ∷ slice_index_or s 5 0 ∷ slice_index_or s 6 0 ∷ slice_index_or s 7 0
    ∷ []

two_numbers : (v w : ℕ) → sixteen_of (to_be_bytes w64 v) (to_be_bytes w64 w) ≡ to_be_bytes w64 v ++ to_be_bytes w64 w
two_numbers v w = refl

pub sixteen : (v w : ℕ) (r s : List ℕ) → r ≡ to_be_bytes w64 v → s ≡ to_be_bytes w64 w → sixteen_of r s ≡ to_be_bytes w64 v ++ to_be_bytes w64 w
sixteen v w r s e f = ap (λ (q : List ℕ). sixteen_of q s) e ∙ ap (λ (q : List ℕ). sixteen_of (to_be_bytes w64 v) q) f ∙ two_numbers v w
