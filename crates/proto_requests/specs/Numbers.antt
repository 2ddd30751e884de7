-- Numbers that are known by others.
use Rattle.std.specs.Prelude.{ℕ, ◌==◌, Bool, List, Option, is_some}
use Rattle.std.specs.Map.{lookup}

-- the number that is known by this one
abbrev pub number_at : List (ℕ × ℕ) → ℕ → Option ℕ
number_at es q = lookup (λ k. q == k) es

-- a number is known by this one
abbrev pub is_known : List (ℕ × ℕ) → ℕ → Bool
is_known es q = is_some (number_at es q)
