-- What is left of the operations of a rep when one is taken out.
use Rattle.std.proofs.Common.{◌≡◌, refl, ap, sym, subst, List, [], ◌∷◌, ◌+◌, Bool, true, false, cond, arith, Some, map, ◌≤◌}
use Rattle.std.specs.Prelude.{find, not}
use Rattle.sp_base.specs.declared.OpName.{OpName}
use Rattle.sp_history.specs.declared.parts.Begun.{Begun}
use Rattle.sp_history.specs.Lists.{same_op}
use Rattle.sp_history.specs.Past.{is_of, without_begun}
use Rattle.sp_history.specs.Once.{AreApart, occurs}
use Rattle.sp_history.proofs.OnceHolds.{occurs-find, same_op-refl}
use Rattle.proto_rep.specs.declared.operations.ReplyOperation.{ReplyOperation}
use Rattle.proto_rep.specs.Operations.{begun_of, is_for, without_first}

-- ---- As operations

-- the send of this name, and its operation
pub find_begun : (op : OpName) (ws : List ReplyOperation) (s : Begun) → find (is_of op) (map begun_of ws) ≡ Some s → (w : ReplyOperation) × (find (is_for op) ws ≡ Some w) × (begun_of w ≡ s)
find_begun op [] s h = absurd cc
find_begun op (w ∷ ws) s h = go (is_for op w) h (find_begun op ws s)
  where
    some_inj : Some (begun_of w) ≡ Some s → begun_of w ≡ s
    some_inj q = cc

    go : (b : Bool) → cond b (Some (begun_of w)) (find (is_of op) (map begun_of ws)) ≡ Some s → (find (is_of op) (map begun_of ws) ≡ Some s → (v : ReplyOperation) × (find (is_for op) ws ≡ Some v) × (begun_of v ≡ s))
        → (v : ReplyOperation) × (cond b (Some w) (find (is_for op) ws) ≡ Some v) × (begun_of v ≡ s)
    go true h again = (w, refl, some_inj h)
    go false h again = again h

absent : (ss : List Begun) (op : OpName) → occurs ss op ≡ 0 → without_begun ss op ≡ ss
absent [] op h = refl
absent (r ∷ ss) op h = go (is_of op r) h (absent ss op)
  where
    go : (b : Bool) → cond b (occurs ss op + 1) (occurs ss op) ≡ 0 → (occurs ss op ≡ 0 → without_begun ss op ≡ ss) → cond (not b) (r ∷ without_begun ss op) (without_begun ss op) ≡ r ∷ ss
    go true h again = absurd (omega arith)
    go false h again = ap (λ (rest : List Begun). r ∷ rest) (again h)

-- where no name occurs twice, the first is the only one
pub without_all : (op : OpName) (ws : List ReplyOperation) → occurs (map begun_of ws) op ≤ 1 → map begun_of (without_first op ws) ≡ without_begun (map begun_of ws) op
without_all op [] h = refl
without_all op (w ∷ ws) h = go (is_for op w) h (without_all op ws)
  where
    go : (b : Bool) → cond b (occurs (map begun_of ws) op + 1) (occurs (map begun_of ws) op) ≤ 1 → (occurs (map begun_of ws) op ≤ 1 → map begun_of (without_first op ws) ≡ without_begun (map begun_of ws) op)
        → map begun_of (cond b ws (w ∷ without_first op ws)) ≡ cond (not b) (begun_of w ∷ without_begun (map begun_of ws) op) (without_begun (map begun_of ws) op)
    go true h again = sym (absent (map begun_of ws) op (omega (arith, h)))
    go false h again = ap (λ (rest : List Begun). begun_of w ∷ rest) (again h)

-- ---- Names stay apart

-- ---- The first that passes a test

apart_rest : (s : Begun) (ss : List Begun) → AreApart (s ∷ ss) → AreApart ss
apart_rest s ss h op = go (is_of op s) (h op)
  where
    go : (b : Bool) → cond b (occurs ss op + 1) (occurs ss op) ≤ 1 → occurs ss op ≤ 1
    go true k = omega (arith, k)
    go false k = k

-- where no name occurs twice, it is the operation of its name
pub find_own : (P : ReplyOperation → Bool) (ws : List ReplyOperation) (w : ReplyOperation) → find P ws ≡ Some w → AreApart (map begun_of ws) → find (is_of w.op) (map begun_of ws) ≡ Some (begun_of w)
find_own P [] w h a = absurd cc
find_own P (x ∷ ws) w h a = go (P x) h (λ q. find_own P ws w q (apart_rest (begun_of x) (map begun_of ws) a))
  where
    some_inj : Some x ≡ Some w → x ≡ w
    some_inj q = cc

    twice : (b : Bool) → cond b (occurs (map begun_of ws) w.op + 1) (occurs (map begun_of ws) w.op) ≤ 1 → 1 ≤ occurs (map begun_of ws) w.op → find (is_of w.op) (map begun_of ws) ≡ Some (begun_of w)
        → cond b (Some (begun_of x)) (find (is_of w.op) (map begun_of ws)) ≡ Some (begun_of w)
    twice true k l again = absurd (omega (arith, k, l))
    twice false k l again = again

    go : (b : Bool) → cond b (Some x) (find P ws) ≡ Some w → (find P ws ≡ Some w → find (is_of w.op) (map begun_of ws) ≡ Some (begun_of w)) → cond (same_op x.op w.op) (Some (begun_of x)) (find (is_of w.op) (map begun_of ws)) ≡ Some (begun_of w)
    go true q more =
        let is : x ≡ w = some_inj q in
        subst (λ (v : ReplyOperation). cond (same_op v.op w.op) (Some (begun_of v)) (find (is_of w.op) (map begun_of ws)) ≡ Some (begun_of w)) (sym is) (ap (λ b. cond b (Some (begun_of w)) (find (is_of w.op) (map begun_of ws))) (same_op-refl w.op))
    go false q more =
        let again = more q in
        twice (same_op x.op w.op) (a w.op) (occurs-find (map begun_of ws) w.op (begun_of w) again) again
