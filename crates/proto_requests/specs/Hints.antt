-- Entries that are worth a look.
use Rattle.std.specs.Prelude.{◌≡◌, ℕ, ◌==◌, Bool, true, not, ◌||◌, List}
use Rattle.std.specs.List.{list_any}

-- the entries, the oldest first, and whether all that are worth a look are among them
pub record HintsView (A : Type 0) : Type 0 where
  pub whole : Bool
  pub items : List A

-- if an entry that passes the test is worth a look, one is among them
abbrev pub covers_by : {A : Type 0} → HintsView A → (A → Bool) → Bool
covers_by h P = not h.whole || list_any P h.items

-- if the number is worth a look, it is among them
abbrev pub covers : HintsView ℕ → ℕ → Bool
covers h q = covers_by h (λ n. n == q)

-- what is worth a look stays so
abbrev pub StayCovered : {A : Type 0} → HintsView A → HintsView A → Type 0
StayCovered {A} old new = (P : A → Bool) → covers_by old P ≡ true → covers_by new P ≡ true

-- the same for numbers
abbrev pub StayAmong : HintsView ℕ → HintsView ℕ → Type 0
StayAmong old new = (q : ℕ) → covers old q ≡ true → covers new q ≡ true
