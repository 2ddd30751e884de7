-- What is left of the receives of a sub when one is taken out.
use Rattle.std.proofs.Common.{◌≡◌, refl, ap, sym, ◌∙◌, subst, List, [], ◌∷◌, ℕ, zero, suc, ◌+◌, Bool, true, false, cond, arith, Some, None, length, map, slice_index_or, ◌<◌, ◌≤◌}
use Rattle.std.specs.Prelude.{find, not, remove, ◌==◌}
use Rattle.std.specs.List.{position}
use Rattle.std.specs.Option.{option_map}
use Rattle.std.proofs.lemmas.Bool.Decides.{nat_tests}
use Rattle.std.proofs.lemmas.List.Quantifiers.{position-Some}
use Rattle.sp_base.specs.declared.OpName.{OpName}
use Rattle.sp_history.specs.declared.parts.Begun.{Begun}
use Rattle.sp_history.specs.Lists.{same_op}
use Rattle.sp_history.specs.Past.{is_of, without_begun}
use Rattle.sp_history.specs.Legal.{is_recv_on}
use Rattle.sp_history.specs.Once.{AreApart, occurs}
use Rattle.sp_history.proofs.OnceHolds.{occurs-find, same_op-refl}
use Rattle.proto_pubsub.specs.declared.subscribe.WaitingReceive.{WaitingReceive}
use Rattle.proto_pubsub.specs.Subs.{begun_of, is_for, without_first}

pub without_none : (op : OpName) (ws : List WaitingReceive) → find (is_for op) ws ≡ None → ws ≡ without_first op ws
without_none op [] h = refl
without_none op (w ∷ ws) h = go (is_for op w) h (without_none op ws)
  where
    go : (b : Bool) → cond b (Some w) (find (is_for op) ws) ≡ None → (find (is_for op) ws ≡ None → ws ≡ without_first op ws) → w ∷ ws ≡ cond b ws (w ∷ without_first op ws)
    go true h again = absurd cc
    go false h again = ap (λ rest. w ∷ rest) (again h)

removes : (op : OpName) (ws : List WaitingReceive) (i : ℕ) (d : WaitingReceive) → i < length ws → is_for op (slice_index_or ws i d) ≡ true → ((k : ℕ) → k < i → is_for op (slice_index_or ws k d) ≡ false) → remove ws i ≡ without_first op ws
removes op [] i d h t b = absurd (omega arith)
removes op (w ∷ ws) zero d h t b = rw t refl
removes op (w ∷ ws) (suc i) d h t b =
    let no : is_for op w ≡ false = b 0 (omega arith) in
    rw no (ap (λ rest. w ∷ rest) (removes op ws i d (omega (arith, h)) t (λ k l. b (suc k) (omega (arith, l)))))

pub without_at : (op : OpName) (ws : List WaitingReceive) (i : ℕ) (d : WaitingReceive) → position (is_for op) ws ≡ Some i → remove ws i ≡ without_first op ws
without_at op ws i d h = let at = position-Some (is_for op) ws i d h in removes op ws i d at.0 at.1 at.2

-- ---- As operations

-- the receive of this name, and its operation
pub find_begun : (op : OpName) (ws : List WaitingReceive) (s : Begun) → find (is_of op) (map begun_of ws) ≡ Some s → (w : WaitingReceive) × (find (is_for op) ws ≡ Some w) × (begun_of w ≡ s)
find_begun op [] s h = absurd cc
find_begun op (w ∷ ws) s h = go (is_for op w) h (find_begun op ws s)
  where
    some_inj : Some (begun_of w) ≡ Some s → begun_of w ≡ s
    some_inj q = cc

    go : (b : Bool) → cond b (Some (begun_of w)) (find (is_of op) (map begun_of ws)) ≡ Some s → (find (is_of op) (map begun_of ws) ≡ Some s → (v : WaitingReceive) × (find (is_for op) ws ≡ Some v) × (begun_of v ≡ s))
        → (v : WaitingReceive) × (cond b (Some w) (find (is_for op) ws) ≡ Some v) × (begun_of v ≡ s)
    go true h again = (w, refl, some_inj h)
    go false h again = again h

absent : (ss : List Begun) (op : OpName) → occurs ss op ≡ 0 → without_begun ss op ≡ ss
absent [] op h = refl
absent (r ∷ ss) op h = go (is_of op r) h (absent ss op)
  where
    go : (b : Bool) → cond b (occurs ss op + 1) (occurs ss op) ≡ 0 → (occurs ss op ≡ 0 → without_begun ss op ≡ ss) → cond (not b) (r ∷ without_begun ss op) (without_begun ss op) ≡ r ∷ ss
    go true h again = absurd (omega arith)
    go false h again = ap (λ (rest : List Begun). r ∷ rest) (again h)

-- where no name occurs twice, the first is the only one
pub without_all : (op : OpName) (ws : List WaitingReceive) → occurs (map begun_of ws) op ≤ 1 → map begun_of (without_first op ws) ≡ without_begun (map begun_of ws) op
without_all op [] h = refl
without_all op (w ∷ ws) h = go (is_for op w) h (without_all op ws)
  where
    go : (b : Bool) → cond b (occurs (map begun_of ws) op + 1) (occurs (map begun_of ws) op) ≤ 1 → (occurs (map begun_of ws) op ≤ 1 → map begun_of (without_first op ws) ≡ without_begun (map begun_of ws) op)
        → map begun_of (cond b ws (w ∷ without_first op ws)) ≡ cond (not b) (begun_of w ∷ without_begun (map begun_of ws) op) (without_begun (map begun_of ws) op)
    go true h again = sym (absent (map begun_of ws) op (omega (arith, h)))
    go false h again = ap (λ (rest : List Begun). begun_of w ∷ rest) (again h)

apart_rest : (s : Begun) (ss : List Begun) → AreApart (s ∷ ss) → AreApart ss
apart_rest s ss h op = go (is_of op s) (h op)
  where
    go : (b : Bool) → cond b (occurs ss op + 1) (occurs ss op) ≤ 1 → occurs ss op ≤ 1
    go true k = omega (arith, k)
    go false k = k

-- where no name occurs twice, it is the operation of its name
pub find_own : (P : WaitingReceive → Bool) (ws : List WaitingReceive) (w : WaitingReceive) → find P ws ≡ Some w → AreApart (map begun_of ws) → find (is_of w.op) (map begun_of ws) ≡ Some (begun_of w)
find_own P [] w h a = absurd cc
find_own P (x ∷ ws) w h a = go (P x) h (λ q. find_own P ws w q (apart_rest (begun_of x) (map begun_of ws) a))
  where
    some_inj : Some x ≡ Some w → x ≡ w
    some_inj q = cc

    twice : (b : Bool) → cond b (occurs (map begun_of ws) w.op + 1) (occurs (map begun_of ws) w.op) ≤ 1 → 1 ≤ occurs (map begun_of ws) w.op → find (is_of w.op) (map begun_of ws) ≡ Some (begun_of w)
        → cond b (Some (begun_of x)) (find (is_of w.op) (map begun_of ws)) ≡ Some (begun_of w)
    twice true k l again = absurd (omega (arith, k, l))
    twice false k l again = again

    go : (b : Bool) → cond b (Some x) (find P ws) ≡ Some w → (find P ws ≡ Some w → find (is_of w.op) (map begun_of ws) ≡ Some (begun_of w)) → cond (same_op x.op w.op) (Some (begun_of x)) (find (is_of w.op) (map begun_of ws)) ≡ Some (begun_of w)
    go true q more =
        let is : x ≡ w = some_inj q in
        subst (λ (v : WaitingReceive). cond (same_op v.op w.op) (Some (begun_of v)) (find (is_of w.op) (map begun_of ws)) ≡ Some (begun_of w)) (sym is) (ap (λ b. cond b (Some (begun_of w)) (find (is_of w.op) (map begun_of ws))) (same_op-refl w.op))
    go false q more =
        let again = more q in
        twice (same_op x.op w.op) (a w.op) (occurs-find (map begun_of ws) w.op (begun_of w) again) again

-- ---- The first of its context

passed : (K : ℕ → Bool) (w : WaitingReceive) (ys : List WaitingReceive) → find (λ (x : WaitingReceive). K x.ctx) ys ≡ Some w → K w.ctx ≡ true
passed K w [] q = absurd cc
passed K w (y ∷ ys) q = step (K y.ctx) refl q (passed K w ys)
  where
    some_y : Some y ≡ Some w → y ≡ w
    some_y q = cc

    step : (b : Bool) → K y.ctx ≡ b → cond b (Some y) (find (λ (x : WaitingReceive). K x.ctx) ys) ≡ Some w → (find (λ (x : WaitingReceive). K x.ctx) ys ≡ Some w → K w.ctx ≡ true) → K w.ctx ≡ true
    step true e q again = subst (λ (v : WaitingReceive). K v.ctx ≡ true) (some_y q) e
    step false e q again = again q

-- where a test reads only the context, the first that passes it is the first of its context
pub first_of_its : (K : ℕ → Bool) (ws : List WaitingReceive) (w : WaitingReceive) → find (λ (x : WaitingReceive). K x.ctx) ws ≡ Some w → option_map (λ (s : Begun). s.op) (find (is_recv_on w.ctx) (map begun_of ws)) ≡ Some w.op
first_of_its K [] w h = absurd cc
first_of_its K (x ∷ ws) w h = go (K x.ctx) refl h (x.ctx == w.ctx) refl (first_of_its K ws w)
  where
    some_inj : Some x ≡ Some w → x ≡ w
    some_inj q = cc

    equal : (m n : ℕ) → (m == n) ≡ true → m ≡ n
    equal m n e = grind (arith, nat_tests)

    itself : (n : ℕ) → (n == n) ≡ true
    itself n = grind (arith, nat_tests)

    go : (b : Bool) → K x.ctx ≡ b → cond b (Some x) (find (λ (x : WaitingReceive). K x.ctx) ws) ≡ Some w → (a : Bool) → (x.ctx == w.ctx) ≡ a → (find (λ (x : WaitingReceive). K x.ctx) ws ≡ Some w → option_map (λ (s : Begun). s.op) (find (is_recv_on w.ctx) (map begun_of ws)) ≡ Some w.op)
        → option_map (λ (s : Begun). s.op) (cond a (Some (begun_of x)) (find (is_recv_on w.ctx) (map begun_of ws))) ≡ Some w.op
    go true e q true f again = ap (λ (v : WaitingReceive). Some v.op) (some_inj q)
    go true e q false f again =
        let same : (x.ctx == w.ctx) ≡ true = subst (λ (v : WaitingReceive). (x.ctx == v.ctx) ≡ true) (some_inj q) (itself x.ctx) in
        let no : false ≡ true = sym f ∙ same in absurd cc
    go false e q true f again =
        let no : false ≡ true = sym e ∙ ap K (equal x.ctx w.ctx f) ∙ passed K w ws q in absurd cc
    go false e q false f again = again q
