-- What is left when a slot's deadline is taken out.
use Rattle.std.proofs.Common.{◌≡◌, Bool, true, false, List, [], ◌∷◌, length, refl}
use Rattle.std.specs.Prelude.{filter, not}

-- no element that failed the test passes it
pub none_left : {X : Type 0} (p : X → Bool) (xs : List X) → length (filter p (filter (λ x. not (p x)) xs)) ≡ 0
none_left p [] = refl
none_left p (x ∷ xs) =
    let more = none_left p xs in
    elim (p x) as (λ t. p x ≡ t → length (filter p (filter (λ y. not (p y)) (x ∷ xs))) ≡ 0) [ true ↦ (λ h. rw h more) | false ↦ (λ h. rw h (rw h more)) ] refl
