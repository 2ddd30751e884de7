-- Elements by their numbers.
use Rattle.std.specs.Prelude.{ℕ, nat_lt, Bool}

-- its number is below this one
abbrev pub is_before : {A : Type 0} → (A → ℕ) → ℕ → A → Bool
is_before number n x = nat_lt (number x) n
