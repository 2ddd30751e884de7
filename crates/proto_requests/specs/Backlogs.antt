-- What is kept of the pipes, and how it is found.
use Rattle.std.specs.Prelude.{◌≡◌, ℕ, ◌==◌, nat_lt, Bool, true, if◌then◌else◌, List, [], ◌∷◌, map, Option, Some, None}
use Rattle.std.specs.List.{list_any, list_all}
use Rattle.std.specs.Map.{values_of}
use Rattle.sp_history.specs.Once.{AreDistinct}

-- what is kept, the oldest first
pub record BacklogView (A : Type 0) : Type 0 where
  pub items : List A

-- it has this number
abbrev pub is_of : {A : Type 0} → (A → ℕ) → ℕ → A → Bool
is_of number q x = number x == q

-- these are the numbers of the elements, and no two have the same one
abbrev pub IsIndexed : {A : Type 0} → (A → ℕ) → (ℕ → Bool) → List A → Type 0
IsIndexed number known xs = ((q : ℕ) → known q ≡ list_any (is_of number q) xs) × AreDistinct (map number xs)

-- ---- As it is held

-- the number of what is kept of the pipe
abbrev pub number_of : {A : Type 0} → (A → ℕ) → ℕ → List (ℕ × A) → Option ℕ
number_of pipe q [] = None
number_of pipe q (e ∷ es) = if pipe e.1 == q then Some e.0 else number_of pipe q es

-- the number is known by the pipe, no two are of one pipe, and each has a number below the next one to be given
pub record AreNumbered {A : Type 0} (pipe : A → ℕ) (known : ℕ → Option ℕ) (next : ℕ) (es : List (ℕ × A)) : Type 0 where
  pub numbers : (q : ℕ) → known q ≡ number_of pipe q es
  pub apart : AreDistinct (map pipe (values_of es))
  pub below : list_all (λ e. nat_lt e.0 next) es ≡ true
