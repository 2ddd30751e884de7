-- The open contexts of a req.
use Rattle.std.specs.Prelude.{◌≤◌, ℕ, ◌==◌, Bool, ⊤, List, [], ◌∷◌}

-- an open context, and whether there was no memory for a copy of its request since the last tick
pub record ReqContextView : Type 0 where
  pub ctx : ℕ
  pub is_dry : Bool

-- the open contexts, in the order of their numbers
pub record ReqContextsView : Type 0 where
  pub items : List ReqContextView

-- ---- As they are held: by its number, the tick in which each was last dry, or 0

-- the context in this tick
abbrev pub context_in : ℕ → ℕ × ℕ → ReqContextView
context_in tick e = record { ctx = e.0; is_dry = e.1 == tick }

-- none was dry in a later tick
abbrev pub AreUpTo : ℕ → List (ℕ × ℕ) → Type 0
AreUpTo tick [] = ⊤
AreUpTo tick (e ∷ es) = (e.1 ≤ tick) × AreUpTo tick es

-- none was dry in a later tick than this one
pub record AreByTick (tick : ℕ) (es : List (ℕ × ℕ)) : Type 0 where
  pub ticks : AreUpTo tick es
  pub begun : 1 ≤ tick
