-- The open contexts of a surveyor.
use Rattle.std.specs.Prelude.{ℕ, List}

-- their numbers, in order
pub record ContextsView : Type 0 where
  pub items : List ℕ

-- the number of a context is the context
abbrev pub itself : ℕ → ℕ
itself c = c
