-- The last operation of a slot was begun.
use Rattle.std.proofs.Common.{◌≡◌, refl, subst, List, [], ◌∷◌, ℕ, ◌+◌, ◌<◌, ◌≤◌, Bool, true, false, cond, arith}
use Rattle.std.specs.Prelude.{◌==◌}
use Rattle.std.proofs.lemmas.Bool.Decides.{nat_tests}
use Rattle.sp_base.specs.declared.OpName.{OpName}
use Rattle.turn_lock.specs.declared.turn.Turn.{Turn}
use Rattle.sp_history.specs.declared.entry.Entry.{Entry}
use Rattle.sp_history.specs.declared.entry.Entry.TheVariants.{Begin}
use Rattle.sp_history.specs.declared.setting.Setting.{Setting}
use Rattle.sp_history.specs.Lists.{same_op}
use Rattle.sp_history.specs.Past.{begins, onto, past_from, past_of}
use Rattle.sp_history.specs.Once.{begin_count}
use Rattle.sp_history.specs.Legal.{Allowed, Follows, LegalFrom, Legal}
use Rattle.sp_history.proofs.OnceHolds.{same_op-refl}

-- ---- Along a legal history

module _ (z : Setting) (Q : List Entry → Type 0) (step : (k : ℕ) (before : List Entry) (e : Entry) → Q before → Allowed z k before e → Q (e ∷ before)) where
  along_turn : (k : ℕ) (before entries : List Entry) → Q before → Follows z k before entries → Q (onto entries before)
  along_turn k before [] q f = q
  along_turn k before (e ∷ entries) q f = along_turn k (e ∷ before) entries (step k before e q f.0) f.1

  pub along : (before : List Entry) (history : List (Turn Entry)) → Q before → LegalFrom z before history → Q (past_from before history)
  along before [] q l = q
  along before (t ∷ history) q l = along (onto t.entries before) history (along_turn t.number before t.entries q l.0.entries) l.1

abbrev named : ℕ → ℕ → OpName
named slot gen = record { slot = slot; generation = gen }

abbrev Last : ℕ → List Entry → Type 0
Last slot before = 0 < begins before slot → 1 ≤ begin_count before (named slot (begins before slot))

last_next : (slot : ℕ) (before : List Entry) (other : OpName) → Last slot before → other.generation ≡ begins before other.slot + 1 → (x : Bool) → (other.slot == slot) ≡ x
    → 0 < cond x (begins before slot + 1) (begins before slot)
    → 1 ≤ cond (same_op other (named slot (cond x (begins before slot + 1) (begins before slot)))) (begin_count before (named slot (cond x (begins before slot + 1) (begins before slot))) + 1) (begin_count before (named slot (cond x (begins before slot + 1) (begins before slot))))
last_next slot before other h g true e p =
    let s : other.slot ≡ slot = grind (arith, nat_tests) in
    let gen : other.generation ≡ begins before slot + 1 = subst (λ (i : ℕ). other.generation ≡ begins before i + 1) s g in
    let is : other ≡ named slot (begins before slot + 1) = λ i. named (s i) (gen i) in
    let same : same_op other (named slot (begins before slot + 1)) ≡ true = subst (λ (o : OpName). same_op other o ≡ true) is (same_op-refl other) in
    rw same (omega arith)
last_next slot before other h g false e p = go (same_op other (named slot (begins before slot))) (begin_count before (named slot (begins before slot))) (h p)
  where
    go : (b : Bool) (n : ℕ) → 1 ≤ n → 1 ≤ cond b (n + 1) n
    go true n h = omega arith
    go false n h = h

last_step : (z : Setting) (slot k : ℕ) (before : List Entry) (e : Entry) → Last slot before → Allowed z k before e → Last slot (e ∷ before)
last_step z slot k before (Begin other caller c act d) h a = last_next slot before other h a.itself.generation (other.slot == slot) refl
last_step z slot k before _ h a = h

pub last_begun : (z : Setting) (h : List (Turn Entry)) (slot : ℕ) → Legal z h → 0 < begins (past_of h) slot → 1 ≤ begin_count (past_of h) (named slot (begins (past_of h) slot))
last_begun z h slot l = along z (Last slot) (last_step z slot) [] h (λ p. absurd (omega arith)) l
