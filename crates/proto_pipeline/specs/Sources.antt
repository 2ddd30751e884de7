-- The pipes that are up, and those of which a message is kept.
use Rattle.std.specs.Prelude.{ℕ, Bool, ◌==◌, List, Option}
use Rattle.std.specs.Map.{lookup}

-- whether a message of the pipe is kept; `None` where it is not up
abbrev pub mark_at : List (ℕ × Bool) → ℕ → Option Bool
mark_at es q = lookup (λ k. q == k) es
