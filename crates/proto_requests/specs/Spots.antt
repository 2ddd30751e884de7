-- Elements in order, where one that is taken out leaves its spot empty.
use Rattle.std.specs.Prelude.{ℕ, Bool, false, if◌then◌else◌, List, [], ◌∷◌, Option, Some, None}
use Rattle.std.specs.Option.{option_map}
use Rattle.proto_requests.specs.declared.spots.Spot.{Spot}

abbrev pub any_in : {A : Type 0} → (A → Bool) → Option A → Bool
any_in P None = false
any_in P (Some x) = P x

-- an element is there, and it passes the test
abbrev pub holds : {A : Type 0} → (A → Bool) → Spot A → Bool
holds P s = any_in P s.value

abbrev pub with_value : {A : Type 0} → Option A → List A → List A
with_value None xs = xs
with_value (Some x) xs = x ∷ xs

-- the elements at the spots
abbrev pub held : {A : Type 0} → List (Spot A) → List A
held [] = []
held (s ∷ ss) = with_value s.value (held ss)

-- what is there is changed by the function
abbrev pub changed : {A : Type 0} → (A → A) → Spot A → Spot A
changed f s = record { number = s.number; value = option_map f s.value }

-- the mark, if nothing moved
abbrev pub stays : Bool → ℕ → ℕ
stays moved from = if moved then 0 else from
