-- Pending operations whose names are distinct, without one of them and with one more.
use Rattle.std.proofs.Common.{◌≡◌, refl, subst, List, [], ◌∷◌, ◌++◌, ℕ, ◌+◌, Bool, true, false, cond, arith, ◌≤◌}
use Rattle.std.specs.Prelude.{◌||◌, ◌==◌}
use Rattle.std.specs.List.{list_any}
use Rattle.std.proofs.lemmas.Bool.Decides.{nat_tests}
use Rattle.sp_base.specs.declared.OpName.{OpName}
use Rattle.sp_history.specs.declared.parts.Begun.{Begun}
use Rattle.sp_history.specs.Lists.{same_op}
use Rattle.sp_history.specs.Past.{is_of, without_begun}
use Rattle.sp_history.specs.Legal.{is_at}
use Rattle.sp_history.specs.Once.{AreApart, occurs}
use Rattle.sp_history.proofs.OnceHolds.{same_op-eq, same_op-slot, occurs-append, occurs-without, occurs-without_other}

pub apart_without : (ss : List Begun) (op : OpName) → AreApart ss → AreApart (without_begun ss op)
apart_without ss op h other = go (same_op op other) refl
  where
    go : (b : Bool) → same_op op other ≡ b → occurs (without_begun ss op) other ≤ 1
    go true e =
        let same : op ≡ other = same_op-eq op other e in
        let none : occurs (without_begun ss op) other ≡ 0 = subst (λ (o : OpName). occurs (without_begun ss op) o ≡ 0) same (occurs-without ss op) in
        omega (arith, none)
    go false e = omega (arith, occurs-without_other ss op other e, h other)

none_at : (ss : List Begun) (op : OpName) → list_any (is_at op.slot) ss ≡ false → occurs ss op ≡ 0
none_at [] op h = refl
none_at (s ∷ ss) op h = go (is_at op.slot s) refl (is_of op s) refl h (none_at ss op)
  where
    go : (a : Bool) → is_at op.slot s ≡ a → (b : Bool) → is_of op s ≡ b → (a || list_any (is_at op.slot) ss) ≡ false → (list_any (is_at op.slot) ss ≡ false → occurs ss op ≡ 0) → cond b (occurs ss op + 1) (occurs ss op) ≡ 0
    go true e b f h again = absurd cc
    go false e true f h again =
        let slots : s.op.slot ≡ op.slot = same_op-slot s.op op f in
        absurd (differ (s.op.slot) (op.slot) slots e)
      where
        differ : (m n : ℕ) → m ≡ n → (m == n) ≡ false → ⊥
        differ m n h k = grind (arith, nat_tests)
    go false e false f h again = again h

pub apart_more : (ss : List Begun) (s : Begun) → AreApart ss → list_any (is_at s.op.slot) ss ≡ false → AreApart (ss ++ s ∷ [])
apart_more ss s h free other = go (is_of other s) refl
  where
    go : (b : Bool) → is_of other s ≡ b → occurs (ss ++ s ∷ []) other ≤ 1
    go true e =
        let same : s.op ≡ other = same_op-eq s.op other e in
        let none : occurs ss other ≡ 0 = subst (λ (o : OpName). occurs ss o ≡ 0) same (none_at ss s.op free) in
        let more : occurs (ss ++ s ∷ []) other ≡ cond true (occurs ss other + 1) (occurs ss other) = subst (λ b. occurs (ss ++ s ∷ []) other ≡ cond b (occurs ss other + 1) (occurs ss other)) e (occurs-append ss s other) in
        omega (arith, none, more)
    go false e =
        let more : occurs (ss ++ s ∷ []) other ≡ cond false (occurs ss other + 1) (occurs ss other) = subst (λ b. occurs (ss ++ s ∷ []) other ≡ cond b (occurs ss other + 1) (occurs ss other)) e (occurs-append ss s other) in
        omega (arith, more, h other)
