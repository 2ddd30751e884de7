-- The first of a list that passes a test: the list without it, or with it changed, and its place.
use Rattle.std.specs.Prelude.{ℕ, Bool, if◌then◌else◌, List, [], ◌∷◌, Option, Some, None}

-- the list without the first element that passes the test
abbrev pub without_found : {A : Type 0} → (A → Bool) → List A → List A
without_found P [] = []
without_found P (x ∷ xs) = if P x then xs else x ∷ without_found P xs

-- the list with the first element changed that passes the test
abbrev pub with_found : {A : Type 0} → (A → Bool) → (A → A) → List A → List A
with_found P f [] = []
with_found P f (x ∷ xs) = if P x then f x ∷ xs else x ∷ with_found P f xs

-- the place that was found, or the end
abbrev pub reached : Option ℕ → ℕ → ℕ
reached None n = n
reached (Some i) n = i
