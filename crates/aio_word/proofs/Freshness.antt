-- One more new seat, and one fewer.
use Rattle.std.proofs.Common.{◌≡◌, ℕ, ◌+◌, List, [], ◌∷◌, ◌++◌, length, ap, ◌∙◌, arith}
use Rattle.atomic_table.specs.Seated.{TableId}
use Rattle.aio_word.specs.Sight.{Sight}
use Rattle.aio_word.specs.Views.{new_core, new_caller}
use Rattle.aio_word.specs.Fresh.{AreFresh}

pub AreFresh-push : (n m k : ℕ) (z : TableId) (l : List Sight) (c : Sight) → k ≡ m + length l → AreFresh n m z l → c.words ≡ z → c.view ≡ new_caller (record (new_core n) { made = k }) → AreFresh n m z (l ++ c ∷ [])
AreFresh-push n m k z [] c e h own is = (own, is ∙ ap (λ (j : ℕ). new_caller (record (new_core n) { made = j })) (let a : k ≡ m = omega arith in a), tt)
AreFresh-push n m k z (x ∷ xs) c e h own is = (h.0, h.1, AreFresh-push n (m + 1) k z xs c (omega arith) h.2 own is)

-- the last of new seats, and the others
pub AreFresh-pop : (n m : ℕ) (z : TableId) (l : List Sight) (c : Sight) → AreFresh n m z (l ++ c ∷ []) → AreFresh n m z l × (c.words ≡ z) × (c.view ≡ new_caller record (new_core n) { made = m + length l })
AreFresh-pop n m z [] c h = (tt, h.0, h.1 ∙ ap (λ (j : ℕ). new_caller (record (new_core n) { made = j })) (let a : m ≡ m + 0 = omega arith in a))
AreFresh-pop n m z (x ∷ xs) c h =
    let r = AreFresh-pop n (m + 1) z xs c h.2 in
    ((h.0, h.1, r.0), r.1, r.2 ∙ ap (λ (j : ℕ). new_caller (record (new_core n) { made = j })) (let a : m + 1 + length xs ≡ m + length (x ∷ xs) = omega arith in a))
