-- Places in rings, each list of places a ring that ends at its head.
use Rattle.std.specs.Prelude.{◌≡◌, ◌<◌, ◌==◌, ℕ, zero, suc, if◌then◌else◌, List, [], ◌∷◌, length, slice_index_or, set}
use Rattle.core_state.specs.declared.rings.Rings.{Rings}

-- what the list has for the place
abbrev pub at : List ℕ → ℕ → ℕ
at xs place = slice_index_or xs place 0

-- each of the places leads to itself
pub record AreAlone (places : ℕ) (xs : List ℕ) : Type 0 where
  pub count : length xs ≡ places
  pub each : (i : ℕ) → i < places → at xs i ≡ i

-- from the first place through these in their order to the other, forwards and backwards
abbrev pub IsPath : List ℕ → List ℕ → ℕ → List ℕ → ℕ → Type 0
IsPath after before a [] b = (at after a ≡ b) × (at before b ≡ a)
IsPath after before a (x ∷ xs) b = (at after a ≡ x) × (at before x ≡ a) × IsPath after before x xs b

-- the places after this one, until the end of its ring, at most `most` of them
abbrev pub walk : List ℕ → ℕ → ℕ → ℕ → List ℕ
walk after zero a end = []
walk after (suc most) a end = if at after a == end then [] else at after a ∷ walk after most (at after a) end

-- the place is the last before the head
abbrev pub PutsLast : ℕ → ℕ → Rings → Rings → Type 0
PutsLast head place old new =
    (new.after.items ≡ set (set old.after.items (at old.before.items head) place) place head) × (new.before.items ≡ set (set old.before.items head place) place (at old.before.items head))

-- the place's neighbours lead to one another
abbrev pub TakesOut : ℕ → Rings → Rings → Type 0
TakesOut place old new =
    (new.after.items ≡ set old.after.items (at old.before.items place) (at old.after.items place)) × (new.before.items ≡ set old.before.items (at old.after.items place) (at old.before.items place))
