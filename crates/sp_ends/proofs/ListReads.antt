-- The element at an index of a list.
use Rattle.std.proofs.Common.{◌≡◌, ◌<◌, ℕ, List, length, Some, refl, sym, ap, ◌∙◌, arith, slice_get, get_or}
use Rattle.std.proofs.lemmas.Option.{slice_get_read}

pub at_index : {X : Type 0} (xs ys : List X) (i : ℕ) (x : X) → xs ≡ ys → i < length ys → x ≡ get_or xs i x → slice_get ys i ≡ Some x
at_index xs ys i x e lt is = ap (λ zs. slice_get zs i) (sym e) ∙ slice_get_read xs (length xs) i x refl (omega (arith, lt, ap length e)) is
