-- One more turn in a sum.
use Rattle.std.proofs.Common.{◌≡◌, ℕ, ◌+◌, ◌-◌, ◌≤◌, List, [], ◌∷◌, ◌++◌, arith}
use Rattle.turn_lock.specs.declared.turn.Turn.{Turn}
use Rattle.ex_turn_lock.specs.declared.counter.Added.{Added}
use Rattle.ex_turn_lock.specs.Totals.{total}

pub total-append : (a b : List (Turn Added)) → total (a ++ b) ≡ total a + total b
total-append [] b = omega arith
total-append (t ∷ ts) b = let h = total-append ts b in omega arith

pub one_more : (h : List (Turn Added)) (k n : ℕ) → total h ≤ n → n ≡ total (h ++ record { number = k; entries = record { 0 = n - total h } ∷ [] } ∷ [])
one_more h k n le = omega (arith, total-append h (record { number = k; entries = record { 0 = n - total h } ∷ [] } ∷ []))
