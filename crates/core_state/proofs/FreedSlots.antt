-- An operation that ended is collected, and its slot is free again.
use Rattle.std.proofs.Common.{◌≡◌, refl, ap, sym, ◌∙◌, subst, List, [], ◌∷◌, ◌++◌, ℕ, ◌+◌, ◌<◌, ◌≤◌, Bool, true, false, cond, arith, Option, Some, None, length, vec_capacity, length-append, get_or, set, inl, inr}
use Rattle.std.specs.Prelude.{filter, find, is_some, not, ◌&&◌, ◌||◌, ◌==◌, ◌⊎◌, ◌≢◌}
use Rattle.std.specs.List.{All, list_any, AllByRecursion as Each}
use Rattle.std.proofs.lemmas.List.Elements.{All-nil, All-push, All-weaker, recursion_from_All}
use Rattle.std.proofs.lemmas.List.{get_or_default, length-set}
use Rattle.std.proofs.lemmas.Option.{same_Some}
use Rattle.std.proofs.lemmas.Bool.Decides.{nat_tests}
use Rattle.aio_word.specs.Views.{Stands}
use Rattle.sp_base.specs.declared.OpName.{OpName}
use Rattle.sp_history.specs.declared.entry.Entry.{Entry}
use Rattle.sp_history.specs.declared.entry.Entry.TheVariants.{Begin, End, Took}
use Rattle.sp_history.specs.declared.parts.Begun.{Begun}
use Rattle.sp_history.specs.declared.parts.OperationEnd.{OperationEnd}
use Rattle.sp_history.specs.declared.setting.Setting.{Setting}
use Rattle.sp_history.specs.Lists.{has, same_op}
use Rattle.sp_history.specs.Past.{is_of, without_begun, pend, pending, uncollected, ended_as, begins}
use Rattle.sp_history.specs.Legal.{Allowed, is_free, is_at, is_uncollected}
use Rattle.sp_history.specs.Moments.{Moment, past, also, Lawful}
use Rattle.sp_history.proofs.OnceHolds.{same_op-refl, same_op-eq, has_value}
use Rattle.core_state.specs.declared.operations.Operations.{Operations}
use Rattle.core_state.specs.declared.operations.EndedOperation.{EndedOperation}
use Rattle.core_state.specs.OperationsStand.{OperationsStand, Apart, IsWornOut, AreBySlot, done_at, IsOutcomeOf}
use Rattle.core_state.specs.PartSteps.{HasUncollected}
use Rattle.core_state.proofs.ChangedWires.{has-push}
use Rattle.core_state.proofs.PendingEnds.{find-named}
use Rattle.core_state.proofs.Lawfuls.{by_steps}
use Rattle.core_state.proofs.OperationSteps.{apart_push}
use Rattle.core_state.proofs.Outcomes.{any_named, has_done, taken_from, one_less_counted}
use Rattle.core_state.proofs.Elements.{Every, every-append, every-filter, every-one, find-stands}

-- ---- A slot has one operation

abbrev pub begun_at : ℕ → List Begun → ℕ
begun_at i [] = 0
begun_at i (s ∷ ss) = cond (is_at i s) (begun_at i ss + 1) (begun_at i ss)

abbrev pub ended_at : ℕ → List OperationEnd → ℕ
ended_at i [] = 0
ended_at i (e ∷ es) = cond (is_at i e.begun) (ended_at i es + 1) (ended_at i es)

abbrev pub weight : Bool → ℕ
weight true = 1
weight false = 0

begun_at-append : (i : ℕ) (ss : List Begun) (s : Begun) → begun_at i (ss ++ s ∷ []) ≡ begun_at i ss + weight (is_at i s)
begun_at-append i [] s = go (is_at i s)
  where
    go : (b : Bool) → cond b (0 + 1) 0 ≡ 0 + weight b
    go true = refl
    go false = refl
begun_at-append i (r ∷ ss) s = rw (begun_at-append i ss s) (go (is_at i r) (begun_at i ss) (weight (is_at i s)))
  where
    go : (b : Bool) (n m : ℕ) → cond b ((n + m) + 1) (n + m) ≡ cond b (n + 1) n + m
    go true n m = omega arith
    go false n m = refl

pub ended_at-append : (i : ℕ) (es : List OperationEnd) (e : OperationEnd) → ended_at i (es ++ e ∷ []) ≡ ended_at i es + weight (is_at i e.begun)
ended_at-append i [] e = go (is_at i e.begun)
  where
    go : (b : Bool) → cond b (0 + 1) 0 ≡ 0 + weight b
    go true = refl
    go false = refl
ended_at-append i (r ∷ es) e = rw (ended_at-append i es e) (go (is_at i r.begun) (ended_at i es) (weight (is_at i e.begun)))
  where
    go : (b : Bool) (n m : ℕ) → cond b ((n + m) + 1) (n + m) ≡ cond b (n + 1) n + m
    go true n m = omega arith
    go false n m = refl

no_more : (i : ℕ) (ss : List Begun) (op : OpName) → begun_at i (without_begun ss op) ≤ begun_at i ss
no_more i [] op = omega arith
no_more i (r ∷ ss) op = go (is_of op r) (no_more i ss op)
  where
    at : (a : Bool) (n m : ℕ) → n ≤ m → n ≤ cond a (m + 1) m
    at true n m h = omega (arith, h)
    at false n m h = h

    both : (a : Bool) (n m : ℕ) → n ≤ m → cond a (n + 1) n ≤ cond a (m + 1) m
    both true n m h = omega (arith, h)
    both false n m h = h

    go : (b : Bool) → begun_at i (without_begun ss op) ≤ begun_at i ss → begun_at i (cond (not b) (r ∷ without_begun ss op) (without_begun ss op)) ≤ cond (is_at i r) (begun_at i ss + 1) (begun_at i ss)
    go true h = at (is_at i r) _ _ h
    go false h = both (is_at i r) _ _ h

none_begun : (i : ℕ) (ss : List Begun) → list_any (is_at i) ss ≡ false → begun_at i ss ≡ 0
none_begun i [] h = refl
none_begun i (r ∷ ss) h = go (is_at i r) h (none_begun i ss)
  where
    go : (b : Bool) → (b || list_any (is_at i) ss) ≡ false → (list_any (is_at i) ss ≡ false → begun_at i ss ≡ 0) → cond b (begun_at i ss + 1) (begun_at i ss) ≡ 0
    go true h again = absurd cc
    go false h again = again h

begun_none : (i : ℕ) (ss : List Begun) → begun_at i ss ≡ 0 → list_any (is_at i) ss ≡ false
begun_none i [] h = refl
begun_none i (r ∷ ss) h = go (is_at i r) h (begun_none i ss)
  where
    go : (b : Bool) → cond b (begun_at i ss + 1) (begun_at i ss) ≡ 0 → (begun_at i ss ≡ 0 → list_any (is_at i) ss ≡ false) → (b || list_any (is_at i) ss) ≡ false
    go true h again = absurd (omega (arith, h))
    go false h again = again h

none_ended : (i : ℕ) (es : List OperationEnd) → list_any (λ (e : OperationEnd). is_at i e.begun) es ≡ false → ended_at i es ≡ 0
none_ended i [] h = refl
none_ended i (r ∷ es) h = go (is_at i r.begun) h (none_ended i es)
  where
    go : (b : Bool) → (b || list_any (λ (e : OperationEnd). is_at i e.begun) es) ≡ false → (list_any (λ (e : OperationEnd). is_at i e.begun) es ≡ false → ended_at i es ≡ 0) → cond b (ended_at i es + 1) (ended_at i es) ≡ 0
    go true h again = absurd cc
    go false h again = again h

ended_none : (i : ℕ) (es : List OperationEnd) → ended_at i es ≡ 0 → list_any (λ (e : OperationEnd). is_at i e.begun) es ≡ false
ended_none i [] h = refl
ended_none i (r ∷ es) h = go (is_at i r.begun) h (ended_none i es)
  where
    go : (b : Bool) → cond b (ended_at i es + 1) (ended_at i es) ≡ 0 → (ended_at i es ≡ 0 → list_any (λ (e : OperationEnd). is_at i e.begun) es ≡ false) → (b || list_any (λ (e : OperationEnd). is_at i e.begun) es) ≡ false
    go true h again = absurd (omega (arith, h))
    go false h again = again h

moved_at : (i : ℕ) (ss : List Begun) (op : OpName) (s : Begun) → find (is_of op) ss ≡ Some s → begun_at i (without_begun ss op) + weight (is_at i s) ≤ begun_at i ss
moved_at i [] op s h = absurd cc
moved_at i (r ∷ ss) op s h = go (is_of op r) h (no_more i ss op) (moved_at i ss op s)
  where
    one : (a : Bool) (n m : ℕ) → n ≤ m → n + weight a ≤ cond a (m + 1) m
    one true n m h = omega (arith, h)
    one false n m h = omega (arith, h)

    more : (a : Bool) (n m c : ℕ) → n + c ≤ m → cond a (n + 1) n + c ≤ cond a (m + 1) m
    more true n m c h = omega (arith, h)
    more false n m c h = h

    go : (b : Bool) → cond b (Some r) (find (is_of op) ss) ≡ Some s → begun_at i (without_begun ss op) ≤ begun_at i ss → (find (is_of op) ss ≡ Some s → begun_at i (without_begun ss op) + weight (is_at i s) ≤ begun_at i ss)
        → begun_at i (cond (not b) (r ∷ without_begun ss op) (without_begun ss op)) + weight (is_at i s) ≤ cond (is_at i r) (begun_at i ss + 1) (begun_at i ss)
    go true h less again =
        let same : r ≡ s = cc in
        subst (λ (x : Begun). begun_at i (without_begun ss op) + weight (is_at i x) ≤ cond (is_at i r) (begun_at i ss + 1) (begun_at i ss)) same (one (is_at i r) _ _ less)
    go false h less again = more (is_at i r) _ _ _ (again h)

fewer_ended : (i : ℕ) (es : List OperationEnd) (op : OpName) → ended_at i (filter (λ e. not (same_op e.begun.op op)) es) ≤ ended_at i es
fewer_ended i [] op = omega arith
fewer_ended i (r ∷ es) op = go (same_op r.begun.op op) (fewer_ended i es op)
  where
    at : (a : Bool) (n m : ℕ) → n ≤ m → n ≤ cond a (m + 1) m
    at true n m h = omega (arith, h)
    at false n m h = h

    both : (a : Bool) (n m : ℕ) → n ≤ m → cond a (n + 1) n ≤ cond a (m + 1) m
    both true n m h = omega (arith, h)
    both false n m h = h

    go : (b : Bool) → ended_at i (filter (λ e. not (same_op e.begun.op op)) es) ≤ ended_at i es
        → ended_at i (cond (not b) (r ∷ filter (λ e. not (same_op e.begun.op op)) es) (filter (λ e. not (same_op e.begun.op op)) es)) ≤ cond (is_at i r.begun) (ended_at i es + 1) (ended_at i es)
    go true h = at (is_at i r.begun) _ _ h
    go false h = both (is_at i r.begun) _ _ h

both_not : (a b : Bool) → (not a && not b) ≡ true → (a ≡ false) × (b ≡ false)
both_not true b h = absurd cc
both_not false true h = absurd cc
both_not false false h = (refl, refl)

abbrev pub OneAt : ℕ → List Entry → Type 0
OneAt i before = begun_at i (pend before) + ended_at i (uncollected before) ≤ 1

begun_one : (before : List Entry) (i : ℕ) (s : Begun) → is_free before s.op.slot ≡ true → OneAt i before → OneAt i before → begun_at i (pend before ++ s ∷ []) + ended_at i (uncollected before) ≤ 1
begun_one before i s free h again = go (is_at i s) refl
  where
    go : (b : Bool) → is_at i s ≡ b → begun_at i (pend before ++ s ∷ []) + ended_at i (uncollected before) ≤ 1
    go true e =
        let slot : s.op.slot ≡ i = grind (arith, nat_tests) in
        let none = both_not _ _ (subst (λ (j : ℕ). is_free before j ≡ true) slot free) in
        let a = none_begun i (pend before) none.0 in
        let b = none_ended i (uncollected before) none.1 in
        let c : weight (is_at i s) ≡ 1 = ap weight e in
        omega (arith, begun_at-append i (pend before) s, a, b, c)
    go false e =
        let c : weight (is_at i s) ≡ 0 = ap weight e in
        omega (arith, begun_at-append i (pend before) s, c, h)

one_next : (z : Setting) (i k : ℕ) (before : List Entry) (e : Entry) → OneAt i before → Allowed z k before e → OneAt i (e ∷ before)
one_next z i k before (Begin op caller c act d) h a = begun_one before i (record { op = op; ctx = c; act = act }) a.itself.slot_free h h
one_next z i k before (End op ending) h a =
    let found = has_value (pending before op) _ a.itself in
    let x : OperationEnd = record { begun = found.0; ending = ending } in
    let less = moved_at i (pend before) op found.0 found.1 in
    rw found.1 (omega (arith, h, less, ended_at-append i (uncollected before) x))
one_next z i k before (Took op by) h a = omega (arith, h, fewer_ended i (uncollected before) op)
one_next z i k before _ h a = h

pub one_at : (t : Moment) (i : ℕ) → Lawful t → OneAt i (past t)
one_at t i l = by_steps t (OneAt i) (omega arith) (one_next t.z i) l

-- ---- What is taken out

one_fewer : (es : List OperationEnd) (op : OpName) (e : OperationEnd) → Stands e es → e.begun.op ≡ op → ended_at op.slot (filter (λ e. not (same_op e.begun.op op)) es) + 1 ≤ ended_at op.slot es
one_fewer [] op e s n = absurd s
one_fewer (r ∷ es) op e s n = go (same_op r.begun.op op) refl s (λ m. one_fewer es op e m n)
  where
    both : (a : Bool) (n m : ℕ) → n + 1 ≤ m → cond a (n + 1) n + 1 ≤ cond a (m + 1) m
    both true n m h = omega (arith, h)
    both false n m h = h

    go : (b : Bool) → same_op r.begun.op op ≡ b → Stands e (r ∷ es) → (Stands e es → ended_at op.slot (filter (λ e. not (same_op e.begun.op op)) es) + 1 ≤ ended_at op.slot es)
        → ended_at op.slot (cond (not b) (r ∷ filter (λ e. not (same_op e.begun.op op)) es) (filter (λ e. not (same_op e.begun.op op)) es)) + 1 ≤ cond (is_at op.slot r.begun) (ended_at op.slot es + 1) (ended_at op.slot es)
    go true f s again =
        let named : r.begun.op ≡ op = same_op-eq r.begun.op op f in
        let slot : is_at op.slot r.begun ≡ true = grind (arith, nat_tests, ap (λ (o : OpName). o.slot) named) in
        let more = ap (λ (b : Bool). cond b (ended_at op.slot es + 1) (ended_at op.slot es)) slot in
        omega (arith, more, fewer_ended op.slot es op)
    go false f (inl same) again =
        let no : false ≡ true = sym f ∙ ap (λ (o : OpName). same_op o op) (ap (λ (x : OperationEnd). x.begun.op) same ∙ n) ∙ same_op-refl op in
        absurd cc
    go false f (inr m) again = both (is_at op.slot r.begun) _ _ (again m)

-- ---- Slots

left_at : (i : ℕ) (es : List OperationEnd) (op : OpName) → (op.slot == i) ≡ false → list_any (λ (e : OperationEnd). is_at i e.begun) (filter (λ e. not (same_op e.begun.op op)) es) ≡ list_any (λ (e : OperationEnd). is_at i e.begun) es
left_at i [] op h = refl
left_at i (r ∷ es) op h = go (same_op r.begun.op op) refl (left_at i es op h)
  where
    go : (b : Bool) → same_op r.begun.op op ≡ b → list_any (λ (e : OperationEnd). is_at i e.begun) (filter (λ e. not (same_op e.begun.op op)) es) ≡ list_any (λ (e : OperationEnd). is_at i e.begun) es
        → list_any (λ (e : OperationEnd). is_at i e.begun) (cond (not b) (r ∷ filter (λ e. not (same_op e.begun.op op)) es) (filter (λ e. not (same_op e.begun.op op)) es)) ≡ (is_at i r.begun || list_any (λ (e : OperationEnd). is_at i e.begun) es)
    go true e again =
        let same : r.begun.op ≡ op = same_op-eq r.begun.op op e in
        let no : is_at i r.begun ≡ false = ap (λ (o : OpName). o.slot == i) same ∙ h in
        rw no again
    go false e again = ap (λ (b : Bool). is_at i r.begun || b) again

module _ (before : List Entry) (op : OpName) (k : ℕ) where
  free_else : (i : ℕ) → (op.slot == i) ≡ false → is_free (Took op k ∷ before) i ≡ is_free before i
  free_else i h = ap (λ (b : Bool). not (list_any (is_at i) (pend before)) && not b) (left_at i (uncollected before) op h)

  free_here : begun_at op.slot (pend before) ≡ 0 → ended_at op.slot (filter (λ e. not (same_op e.begun.op op)) (uncollected before)) ≡ 0 → is_free (Took op k ∷ before) op.slot ≡ true
  free_here a b = rw (begun_none op.slot (pend before) a, ended_none op.slot (filter (λ e. not (same_op e.begun.op op)) (uncollected before)) b) refl

  free_still : (i : ℕ) → is_free (Took op k ∷ before) op.slot ≡ true → is_free before i ≡ true → is_free (Took op k ∷ before) i ≡ true
  free_still i here h = go (op.slot == i) refl
    where
      go : (b : Bool) → (op.slot == i) ≡ b → is_free (Took op k ∷ before) i ≡ true
      go true e = let same : op.slot ≡ i = grind (arith, nat_tests) in subst (λ (j : ℕ). is_free (Took op k ∷ before) j ≡ true) same here
      go false e = free_else i e ∙ h

  stands_still : (xs : List ℕ) (i : ℕ) → is_free (Took op k ∷ before) i ≡ true → (is_free before i ≡ true → (has xs i ≡ true) ⊎ (has [] i ≡ true) ⊎ IsWornOut (begins before i)) → (has (xs ++ op.slot ∷ []) i ≡ true) ⊎ (has [] i ≡ true) ⊎ IsWornOut (begins (Took op k ∷ before) i)
  stands_still xs i f h = go (op.slot == i) refl
    where
      or_true : (a : Bool) → (a || true) ≡ true
      or_true true = refl
      or_true false = refl

      more : (has xs i ≡ true) ⊎ (has [] i ≡ true) ⊎ IsWornOut (begins before i) → (has (xs ++ op.slot ∷ []) i ≡ true) ⊎ (has [] i ≡ true) ⊎ IsWornOut (begins before i)
      more (inl m) = inl (has-push xs op.slot i ∙ ap (λ (b : Bool). b || (op.slot == i)) m)
      more (inr m) = inr m

      go : (b : Bool) → (op.slot == i) ≡ b → (has (xs ++ op.slot ∷ []) i ≡ true) ⊎ (has [] i ≡ true) ⊎ IsWornOut (begins before i)
      go true e = inl (has-push xs op.slot i ∙ ap (λ (b : Bool). has xs i || b) e ∙ or_true (has xs i))
      go false e = more (h (sym (free_else i e) ∙ f))

taken_slot : (before : List Entry) (slot : ℕ) → 1 ≤ ended_at slot (uncollected before) → is_free before slot ≡ true → ⊥
taken_slot before slot h f = let none = none_ended slot (uncollected before) (both_not _ _ f).1 in absurd (omega (arith, h, none))

not_had : (before : List Entry) (slot : ℕ) (xs : List ℕ) → 1 ≤ ended_at slot (uncollected before) → Each (λ i. is_free before i ≡ true) xs → has xs slot ≡ false
not_had before slot [] h f = refl
not_had before slot (x ∷ xs) h f = go (x == slot) refl (not_had before slot xs h f.1)
  where
    go : (b : Bool) → (x == slot) ≡ b → has xs slot ≡ false → (b || has xs slot) ≡ false
    go true e again = let same : x ≡ slot = grind (arith, nat_tests) in absurd (taken_slot before slot h (subst (λ (i : ℕ). is_free before i ≡ true) same f.0))
    go false e again = again

-- ---- Its slot

abbrev Inside : Setting → List Entry → Type 0
Inside z before = Every (λ s. s.op.slot < z.slots) (pend before) × Every (λ e. e.begun.op.slot < z.slots) (uncollected before)

inside_next : (z : Setting) (k : ℕ) (before : List Entry) (e : Entry) → Inside z before → Allowed z k before e → Inside z (e ∷ before)
inside_next z k before (Begin op caller c act d) h a =
    let s : Begun = record { op = op; ctx = c; act = act } in
    (every-append (λ (s : Begun). s.op.slot < z.slots) (pend before) (s ∷ []) h.0 (every-one (λ (s : Begun). s.op.slot < z.slots) s a.itself.slot_in_range), h.1)
inside_next z k before (End op ending) h a =
    let found = has_value (pending before op) _ a.itself in
    let x : OperationEnd = record { begun = found.0; ending = ending } in
    (every-filter (λ (s : Begun). s.op.slot < z.slots) (λ s. not (is_of op s)) (pend before) h.0, every-append (λ (e : OperationEnd). e.begun.op.slot < z.slots) (uncollected before) (ended_as ending (pending before op)) h.1 (rw found.1 (every-one (λ (e : OperationEnd). e.begun.op.slot < z.slots) x (h.0 found.0 (find-stands (pend before) op found.0 found.1)))))
inside_next z k before (Took op by) h a = (h.0, every-filter (λ (e : OperationEnd). e.begun.op.slot < z.slots) (λ e. not (same_op e.begun.op op)) (uncollected before) h.1)
inside_next z k before _ h a = h

slot_inside : (t : Moment) (e : OperationEnd) (op : OpName) → Lawful t → Stands e (uncollected (past t)) → e.begun.op ≡ op → op.slot < t.z.slots
slot_inside t e op l s named = subst (λ (o : OpName). o.slot < t.z.slots) named ((by_steps t (Inside t.z) (λ s m. absurd m, λ x m. absurd m) (inside_next t.z) l).1 e s)

pub pending_inside : (t : Moment) (op : OpName) (b : Begun) → Lawful t → pending (past t) op ≡ Some b → op.slot < t.z.slots
pending_inside t op b l p =
    subst (λ (o : OpName). o.slot < t.z.slots) (find-named (pend (past t)) op b p) ((by_steps t (Inside t.z) (λ s m. absurd m, λ x m. absurd m) (inside_next t.z) l).0 b (find-stands (pend (past t)) op b p))

-- the slot of a pending operation has none that ended
pub none_ended_yet : (t : Moment) (op : OpName) (b : Begun) → Lawful t → pending (past t) op ≡ Some b → (x : OperationEnd) → Stands x (uncollected (past t)) → x.begun.op.slot ≢ op.slot
none_ended_yet t op b l p x s q =
    let named = find-named (pend (past t)) op b p in
    let here : is_at op.slot b ≡ true = grind (arith, nat_tests, ap (λ (o : OpName). o.slot) named) in
    let w : weight (is_at op.slot b) ≡ 1 = ap weight here in
    let one : 1 ≤ ended_at op.slot (uncollected (past t)) = subst (λ (i : ℕ). 1 ≤ ended_at i (uncollected (past t))) q (omega (arith, one_fewer (uncollected (past t)) x.begun.op x s refl)) in
    omega (arith, moved_at op.slot (pend (past t)) op b p, w, one, one_at t op.slot l)

-- ---- The lists of operations after it

-- its slot has a place
pub within : (s : Operations) (op : OpName) (t : Moment) → Lawful t → OperationsStand [] s t → is_uncollected (past t) op ≡ true → op.slot < length s.done.items
within s op t l h u = let e = any_named (uncollected (past t)) op u in omega (arith, slot_inside t e.0 op l e.1 e.2, h.done_places)

pub collected : (s r : Operations) (t : Moment) (op : OpName) (k : ℕ) (it : EndedOperation) → Lawful t → OperationsStand [] s t → done_at s.done.items op.slot ≡ Some it → it.op ≡ op → op.slot < length s.done.items → r.done.items ≡ set s.done.items op.slot None → r.free.items ≡ s.free.items ++ op.slot ∷ [] → r.pending ≡ s.pending
    → r.deadlines ≡ s.deadlines → vec_capacity s.free ≤ vec_capacity r.free → OperationsStand [] r (also t (Took op k)) × ((e : OperationEnd) × IsOutcomeOf e op (past t) it.outcome)
collected s r t op k it l h there named inside de fe pe dl fc =
    let before = past t in
    let es = uncollected before in
    let one = one_at t op.slot l in
    let e = (h.done_is op.slot it).0 there in
    let is : e.0.begun.op ≡ op = ap (λ (d : EndedOperation). d.op) (sym e.3) ∙ named in
    let less = one_fewer es op e.0 e.1 is in
    let here : is_free (Took op k ∷ before) op.slot ≡ true = free_here before op k (omega (arith, one, less)) (omega (arith, one, less)) in
    let slot_in : op.slot < t.z.slots = slot_inside t e.0 op l e.1 is in (
      record {
        pending_is = ap (λ v. v.items) pe ∙ h.pending_is;
        done_is = subst (λ (xs : List (Option EndedOperation)). AreBySlot xs (uncollected (Took op k ∷ before))) (sym de) (taken_from s.done.items es op it h.done_is inside there named);
        deadlines_are = ap (λ v. v.schedule) dl ∙ h.deadlines_are;
        free_is = subst (All (λ j. (j < t.z.slots) × (is_free (Took op k ∷ before) j ≡ true))) (sym fe) (All-push (λ j. (j < t.z.slots) × (is_free (Took op k ∷ before) j ≡ true)) s.free.items op.slot (All-weaker (λ j. (j < t.z.slots) × (is_free before j ≡ true)) (λ j. (j < t.z.slots) × (is_free (Took op k ∷ before) j ≡ true)) (λ j m. (m.0, free_still before op k j here m.1)) s.free.items h.free_is) (slot_in, here));
        drawn_is = All-nil (λ j. (j < t.z.slots) × (is_free (Took op k ∷ before) j ≡ true) × (has r.free.items j ≡ false));
        free_apart = subst Apart (sym fe) (apart_push s.free.items op.slot h.free_apart (not_had before op.slot s.free.items (omega (arith, less)) (recursion_from_All (λ j. is_free before j ≡ true) s.free.items (All-weaker (λ j. (j < t.z.slots) × (is_free before j ≡ true)) (λ j. is_free before j ≡ true) (λ j m. m.1) s.free.items h.free_is))));
        every = λ j m f. subst (λ (xs : List ℕ). (has xs j ≡ true) ⊎ (has [] j ≡ true) ⊎ IsWornOut (begins (Took op k ∷ before) j)) (sym fe) (stands_still before op k s.free.items j f (h.every j m));
        fits = omega (arith, h.fits, ap length fe, length-append s.free.items (op.slot ∷ []), ap (λ v. length v.items) pe, ap (λ (xs : List (Option EndedOperation)). length (filter is_some xs)) de, one_less_counted s.done.items op.slot it there inside);
        pending_slots = ap (λ v. v.slots) pe ∙ h.pending_slots;
        done_places = ap length de ∙ length-set s.done.items op.slot None ∙ h.done_places;
        free_room = omega (arith, h.free_room, fc);
      },
      (e.0, (e.1, is, ap (λ (d : EndedOperation). d.outcome) e.3)),
    )

-- ---- What is taken from its place

pub nothing_there : (s : Operations) (op : OpName) (o : Option EndedOperation) → HasUncollected op s → o ≡ get_or s.done.items op.slot o → o ≡ None → ⊥
nothing_there s op o q e n =
    let d = has_done s op q.0 q.2 q.3 in
    let no : None ≡ Some d.0 = sym n ∙ e ∙ get_or_default s.done.items op.slot o None (within s op q.0 q.1 q.2 q.3) ∙ d.1 in
    absurd cc

pub record Found (s : Operations) (op : OpName) (it : EndedOperation) : Type 0 where
  pub there : done_at s.done.items op.slot ≡ Some it
  pub named : it.op ≡ op
  pub inside : op.slot < length s.done.items
  pub enough : length s.free.items < vec_capacity s.free
  pub fewer : length (filter is_some (set s.done.items op.slot None)) + 1 ≡ length (filter is_some s.done.items)

pub found : (s : Operations) (op : OpName) (o : Option EndedOperation) (it : EndedOperation) → HasUncollected op s → o ≡ get_or s.done.items op.slot o → o ≡ Some it → Found s op it
found s op o it q e is =
    let inside = within s op q.0 q.1 q.2 q.3 in
    let d = has_done s op q.0 q.2 q.3 in
    let there : done_at s.done.items op.slot ≡ Some it = get_or_default s.done.items op.slot None o inside ∙ sym e ∙ is in
    let fewer = one_less_counted s.done.items op.slot it there inside in
    record {
      there = there;
      named = ap (λ (x : EndedOperation). x.op) (same_Some it d.0 (sym there ∙ d.1)) ∙ d.2;
      inside = inside;
      enough = omega (arith, q.2.fits, q.2.free_room, fewer);
      fewer = fewer;
    }
