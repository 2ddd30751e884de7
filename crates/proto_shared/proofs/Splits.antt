-- The operations of one kind, among all that are pending.
use Rattle.std.proofs.Common.{◌≡◌, refl, ap, ◌∙◌, subst, List, [], ◌∷◌, ◌++◌, ℕ, ◌+◌, ◌≤◌, Bool, true, false, cond, arith, Some}
use Rattle.std.specs.Prelude.{find, filter, not, ◌||◌, ◌==◌}
use Rattle.std.specs.List.{list_any}
use Rattle.std.proofs.lemmas.Bool.Decides.{nat_tests}
use Rattle.sp_base.specs.declared.OpName.{OpName}
use Rattle.sp_history.specs.declared.parts.Begun.{Begun}
use Rattle.sp_history.specs.Lists.{same_op}
use Rattle.sp_history.specs.Past.{is_of, without_begun}
use Rattle.sp_history.specs.Legal.{is_at}
use Rattle.sp_history.specs.Once.{AreApart, occurs}
use Rattle.sp_history.proofs.OnceHolds.{same_op-eq, same_op-slot, occurs-append, occurs-without, occurs-without_other}

-- ---- Names stay apart

pub absent : (ss : List Begun) (op : OpName) → occurs ss op ≡ 0 → without_begun ss op ≡ ss
absent [] op h = refl
absent (r ∷ ss) op h = go (is_of op r) h (absent ss op)
  where
    go : (b : Bool) → cond b (occurs ss op + 1) (occurs ss op) ≡ 0 → (occurs ss op ≡ 0 → without_begun ss op ≡ ss) → cond (not b) (r ∷ without_begun ss op) (without_begun ss op) ≡ r ∷ ss
    go true h again = absurd (omega arith)
    go false h again = ap (λ (rest : List Begun). r ∷ rest) (again h)

pub apart_without : (ss : List Begun) (op : OpName) → AreApart ss → AreApart (without_begun ss op)
apart_without ss op h other = go (same_op op other) refl
  where
    go : (b : Bool) → same_op op other ≡ b → occurs (without_begun ss op) other ≤ 1
    go true e =
        let same : op ≡ other = same_op-eq op other e in
        let none : occurs (without_begun ss op) other ≡ 0 = subst (λ (o : OpName). occurs (without_begun ss op) o ≡ 0) same (occurs-without ss op) in
        omega (arith, none)
    go false e = omega (arith, occurs-without_other ss op other e, h other)

none_at : (ss : List Begun) (op : OpName) → list_any (is_at op.slot) ss ≡ false → occurs ss op ≡ 0
none_at [] op h = refl
none_at (s ∷ ss) op h = go (is_at op.slot s) refl (is_of op s) refl h (none_at ss op)
  where
    go : (a : Bool) → is_at op.slot s ≡ a → (b : Bool) → is_of op s ≡ b → (a || list_any (is_at op.slot) ss) ≡ false → (list_any (is_at op.slot) ss ≡ false → occurs ss op ≡ 0) → cond b (occurs ss op + 1) (occurs ss op) ≡ 0
    go true e b f h again = absurd cc
    go false e true f h again =
        let slots : s.op.slot ≡ op.slot = same_op-slot s.op op f in
        absurd (differ (s.op.slot) (op.slot) slots e)
      where
        differ : (m n : ℕ) → m ≡ n → (m == n) ≡ false → ⊥
        differ m n h k = grind (arith, nat_tests)
    go false e false f h again = again h

pub apart_more : (ss : List Begun) (s : Begun) → AreApart ss → list_any (is_at s.op.slot) ss ≡ false → AreApart (ss ++ s ∷ [])
apart_more ss s h free other = go (is_of other s) refl
  where
    go : (b : Bool) → is_of other s ≡ b → occurs (ss ++ s ∷ []) other ≤ 1
    go true e =
        let same : s.op ≡ other = same_op-eq s.op other e in
        let none : occurs ss other ≡ 0 = subst (λ (o : OpName). occurs ss o ≡ 0) same (none_at ss s.op free) in
        let more : occurs (ss ++ s ∷ []) other ≡ cond true (occurs ss other + 1) (occurs ss other) = subst (λ b. occurs (ss ++ s ∷ []) other ≡ cond b (occurs ss other + 1) (occurs ss other)) e (occurs-append ss s other) in
        omega (arith, none, more)
    go false e =
        let more : occurs (ss ++ s ∷ []) other ≡ cond false (occurs ss other + 1) (occurs ss other) = subst (λ b. occurs (ss ++ s ∷ []) other ≡ cond b (occurs ss other + 1) (occurs ss other)) e (occurs-append ss s other) in
        omega (arith, more, h other)

-- ---- Those that pass a test

module _ (f : Begun → Bool) where
  pub occurs_most : (ss : List Begun) (op : OpName) → occurs (filter f ss) op ≤ occurs ss op
  occurs_most [] op = omega arith
  occurs_most (x ∷ ss) op = go (f x) (is_of op x) (occurs_most ss op)
    where
      go : (a b : Bool) → occurs (filter f ss) op ≤ occurs ss op → occurs (cond a (x ∷ filter f ss) (filter f ss)) op ≤ occurs (x ∷ ss) op
      go true b h = most (is_of op x)
        where
          most : (c : Bool) → cond c (occurs (filter f ss) op + 1) (occurs (filter f ss) op) ≤ cond c (occurs ss op + 1) (occurs ss op)
          most true = omega (arith, h)
          most false = h
      go false b h = most (is_of op x)
        where
          most : (c : Bool) → occurs (filter f ss) op ≤ cond c (occurs ss op + 1) (occurs ss op)
          most true = omega (arith, h)
          most false = h

  -- the first one with a name is still the first one with it, where it passes
  pub find_passing : (ss : List Begun) (op : OpName) (s : Begun) → find (is_of op) ss ≡ Some s → f s ≡ true → find (is_of op) (filter f ss) ≡ Some s
  find_passing [] op s h k = absurd cc
  find_passing (x ∷ ss) op s h k = go (is_of op x) refl h (find_passing ss op s)
    where
      some_inj : Some x ≡ Some s → x ≡ s
      some_inj q = cc

      skip : (a : Bool) → is_of op x ≡ false → find (is_of op) (filter f ss) ≡ Some s → find (is_of op) (cond a (x ∷ filter f ss) (filter f ss)) ≡ Some s
      skip true e q = rw e q
      skip false e q = q

      go : (b : Bool) → is_of op x ≡ b → cond b (Some x) (find (is_of op) ss) ≡ Some s → (find (is_of op) ss ≡ Some s → f s ≡ true → find (is_of op) (filter f ss) ≡ Some s) → find (is_of op) (cond (f x) (x ∷ filter f ss) (filter f ss)) ≡ Some s
      go true e q again =
          let same : x ≡ s = some_inj q in
          let passes : f x ≡ true = ap f same ∙ k in
          rw (passes, e) q
      go false e q again = skip (f x) e (again q k)

  pub without_passing : (ss : List Begun) (op : OpName) → filter f (without_begun ss op) ≡ without_begun (filter f ss) op
  without_passing [] op = refl
  without_passing (x ∷ ss) op = go (f x) refl (is_of op x) refl (without_passing ss op)
    where
      go : (a : Bool) → f x ≡ a → (b : Bool) → is_of op x ≡ b → filter f (without_begun ss op) ≡ without_begun (filter f ss) op
          → filter f (cond (not b) (x ∷ without_begun ss op) (without_begun ss op)) ≡ without_begun (cond a (x ∷ filter f ss) (filter f ss)) op
      go true e true g h = rw g h
      go true e false g h = rw (e, g) (ap (λ (rest : List Begun). x ∷ rest) h)
      go false e true g h = h
      go false e false g h = rw e h

  -- one that doesn't pass is not missing from those that do
  pub other_stay : (ss : List Begun) (op : OpName) (s : Begun) → AreApart ss → find (is_of op) ss ≡ Some s → f s ≡ false → filter f (without_begun ss op) ≡ filter f ss
  other_stay ss op s apart h k = without_passing ss op ∙ absent (filter f ss) op (none ss (apart op) h)
    where
      some_inj : (x : Begun) → Some x ≡ Some s → x ≡ s
      some_inj x q = cc

      none : (ss : List Begun) → occurs ss op ≤ 1 → find (is_of op) ss ≡ Some s → occurs (filter f ss) op ≡ 0
      none [] a q = absurd cc
      none (x ∷ ss) a q = go (is_of op x) refl a q (none ss)
        where
          skip : (c : Bool) → is_of op x ≡ false → occurs (filter f ss) op ≡ 0 → occurs (cond c (x ∷ filter f ss) (filter f ss)) op ≡ 0
          skip true e z = rw e z
          skip false e z = z

          go : (b : Bool) → is_of op x ≡ b → cond b (occurs ss op + 1) (occurs ss op) ≤ 1 → cond b (Some x) (find (is_of op) ss) ≡ Some s → (occurs ss op ≤ 1 → find (is_of op) ss ≡ Some s → occurs (filter f ss) op ≡ 0) → occurs (cond (f x) (x ∷ filter f ss) (filter f ss)) op ≡ 0
          go true e a q again =
              let no_pass : f x ≡ false = ap f (some_inj x q) ∙ k in
              rw no_pass (omega (arith, a, occurs_most ss op))
          go false e a q again = skip (f x) e (again a q)

  pub passing_append : (ss : List Begun) (s : Begun) → filter f (ss ++ s ∷ []) ≡ filter f ss ++ cond (f s) (s ∷ []) []
  passing_append [] s = refl
  passing_append (x ∷ ss) s = go (f x) (passing_append ss s)
    where
      go : (a : Bool) → filter f (ss ++ s ∷ []) ≡ filter f ss ++ cond (f s) (s ∷ []) [] → cond a (x ∷ filter f (ss ++ s ∷ [])) (filter f (ss ++ s ∷ [])) ≡ cond a (x ∷ filter f ss) (filter f ss) ++ cond (f s) (s ∷ []) []
      go true h = ap (λ (rest : List Begun). x ∷ rest) h
      go false h = h
