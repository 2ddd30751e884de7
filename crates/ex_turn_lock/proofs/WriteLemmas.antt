-- One more turn in a log of writes.
use Rattle.std.proofs.Common.{◌≡◌, ℕ, List, [], ◌∷◌, ◌++◌, refl, ap, ◌∙◌, sym, append_assoc, append-nil}
use Rattle.std.specs.Prelude.{map}
use Rattle.turn_lock.specs.declared.turn.Turn.{Turn}
use Rattle.ex_turn_lock.specs.declared.writes.Write.{Write}
use Rattle.ex_turn_lock.specs.declared.writes.Written.{Written}
use Rattle.ex_turn_lock.specs.Logs.{writes_of, value_after}

pub writes_of-append : (a b : List (Turn Written)) → writes_of (a ++ b) ≡ writes_of a ++ writes_of b
writes_of-append [] b = refl
writes_of-append (t ∷ ts) b = let here : List Write = map (λ (w : Written). record { by = t.number; value = w.0 }) t.entries in ap (λ (ws : List Write). here ++ ws) (writes_of-append ts b) ∙ sym (append_assoc here (writes_of ts) (writes_of b))

-- the turn that writes nothing
pub writes_of-idle : (past : List (Turn Written)) (k : ℕ) → writes_of (past ++ record { number = k; entries = [] } ∷ []) ≡ writes_of past
writes_of-idle past k = writes_of-append past (record { number = k; entries = [] } ∷ []) ∙ append-nil (writes_of past)

pub writes_of-wrote : (past : List (Turn Written)) (k v : ℕ) → writes_of (past ++ record { number = k; entries = record { 0 = v } ∷ [] } ∷ []) ≡ writes_of past ++ record { by = k; value = v } ∷ []
writes_of-wrote past k v = writes_of-append past (record { number = k; entries = record { 0 = v } ∷ [] } ∷ [])

pub value_after-push : (v : ℕ) (ws : List Write) (w : Write) → value_after v (ws ++ w ∷ []) ≡ w.value
value_after-push v [] w = refl
value_after-push v (x ∷ xs) w = value_after-push x.value xs w
