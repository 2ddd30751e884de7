-- Calls by their numbers, the first being number 0.
use Rattle.std.specs.Prelude.{ℕ, Bool, List, eqb}
use Rattle.std.specs.List.{list_any}
use Rattle.sp_msg.specs.Marks.{one_more}

-- the number of calls so far, and the numbers of those that fail
pub record Calls : Type 0 where
  pub made : ℕ
  pub fails : List ℕ

abbrev pub is_among : ℕ → List ℕ → Bool
is_among n ns = list_any (λ y. eqb y n) ns

-- the number of the next call is among those that fail
abbrev pub next_fails : Calls → Bool
next_fails calls = is_among calls.made calls.fails

abbrev pub one_call : Calls → Calls
one_call calls = record { made = one_more calls.made; fails = calls.fails }
