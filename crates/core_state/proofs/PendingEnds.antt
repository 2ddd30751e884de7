-- An operation that is pending, and its end on the lists of operations.
use Rattle.std.proofs.Common.{◌≡◌, refl, ap, sym, ◌∙◌, subst, List, [], ◌∷◌, ◌++◌, ℕ, ◌+◌, ◌<◌, ◌≤◌, Bool, true, false, cond, arith, Option, Some, None, length, inl, inr}
use Rattle.std.specs.Prelude.{map, filter, find, not, ◌&&◌, ◌||◌, ◌==◌}
use Rattle.std.specs.List.{list_any, AllByRecursion as Each}
use Rattle.std.proofs.lemmas.List.Folds.{list_any-append}
use Rattle.std.proofs.lemmas.Bool.Decides.{nat_tests}
use Rattle.sp_base.specs.declared.OpName.{OpName}
use Rattle.sp_history.specs.declared.entry.Entry.{Entry}
use Rattle.sp_history.specs.declared.entry.Entry.TheVariants.{Begin, End, Tick}
use Rattle.sp_history.specs.declared.entry.Ending.{Ending}
use Rattle.sp_history.specs.declared.parts.Begun.{Begun}
use Rattle.sp_history.specs.declared.parts.OperationEnd.{OperationEnd}
use Rattle.sp_history.specs.declared.parts.Timer.{Timer}
use Rattle.sp_history.specs.declared.setting.Setting.{Setting}
use Rattle.sp_history.specs.Lists.{same_op}
use Rattle.sp_history.specs.Past.{is_of, is_due, without_begun, pend, pending, uncollected, begins, timers, timer_of}
use Rattle.sp_history.specs.Once.{AreApart, occurs}
use Rattle.sp_history.specs.Legal.{Allowed, is_free, is_at}
use Rattle.sp_history.specs.Moments.{Moment, past, Lawful}
use Rattle.sp_history.proofs.OnceHolds.{same_op-refl, same_op-eq, occurs-append, occurs-find, occurs-without_other}
use Rattle.core_state.specs.declared.pending.PendingOperation.{PendingOperation}
use Rattle.core_state.specs.Pendings.{IsAmong}
use Rattle.core_state.specs.OperationsStand.{pending_of}
use Rattle.core_state.proofs.Lawfuls.{by_steps, current, counted}
use Rattle.core_state.proofs.Timing.{Each-weaker, Each-filter}

-- ---- Pending

some_inj : (r s : Begun) → Some r ≡ Some s → r ≡ s
some_inj r s q = cc

tail_apart : (r : Begun) (ss : List Begun) → AreApart (r ∷ ss) → AreApart ss
tail_apart r ss h op = less (is_of op r) (occurs ss op) (h op)
  where
    less : (b : Bool) (n : ℕ) → cond b (n + 1) n ≤ 1 → n ≤ 1
    less true n h = omega (arith, h)
    less false n h = h

-- what is there can be found by its name
pub among_named : (x : PendingOperation) (ss : List Begun) → AreApart ss → IsAmong x (map pending_of ss) → (s : Begun) × (find (is_of x.op) ss ≡ Some s) × (x ≡ pending_of s)
among_named x [] a m = absurd m
among_named x (r ∷ ss) a (inl e) =
    (r, subst (λ (y : PendingOperation). find (is_of y.op) (r ∷ ss) ≡ Some r) e (ap (λ (b : Bool). cond b (Some r) (find (is_of r.op) ss)) (same_op-refl r.op)), sym e)
among_named x (r ∷ ss) a (inr m) = go (is_of x.op r) refl (among_named x ss (tail_apart r ss a) m)
  where
    go : (b : Bool) → is_of x.op r ≡ b → (s : Begun) × (find (is_of x.op) ss ≡ Some s) × (x ≡ pending_of s) → (s : Begun) × (cond b (Some r) (find (is_of x.op) ss) ≡ Some s) × (x ≡ pending_of s)
    go true e k =
        let one : 1 ≤ occurs ss x.op = occurs-find ss x.op k.0 k.1 in
        let most : occurs (r ∷ ss) x.op ≤ 1 = a x.op in
        let both : occurs (r ∷ ss) x.op ≡ occurs ss x.op + 1 = rw e refl in
        absurd (omega (arith, one, most, both))
    go false e k = k

pub named_among : (ss : List Begun) (op : OpName) (s : Begun) → find (is_of op) ss ≡ Some s → IsAmong (pending_of s) (map pending_of ss)
named_among [] op s h = absurd cc
named_among (r ∷ ss) op s h = go (is_of op r) h (named_among ss op s)
  where
    go : (b : Bool) → cond b (Some r) (find (is_of op) ss) ≡ Some s → (find (is_of op) ss ≡ Some s → IsAmong (pending_of s) (map pending_of ss)) → IsAmong (pending_of s) (pending_of r ∷ map pending_of ss)
    go true h again = inl (ap pending_of (some_inj r s h))
    go false h again = inr (again h)

pub find-named : (ss : List Begun) (op : OpName) (s : Begun) → find (is_of op) ss ≡ Some s → s.op ≡ op
find-named [] op s h = absurd cc
find-named (r ∷ ss) op s h = go (is_of op r) refl h (find-named ss op s)
  where
    go : (b : Bool) → is_of op r ≡ b → cond b (Some r) (find (is_of op) ss) ≡ Some s → (find (is_of op) ss ≡ Some s → s.op ≡ op) → s.op ≡ op
    go true e h again = ap (λ (x : Begun). x.op) (sym (some_inj r s h)) ∙ same_op-eq r.op op e
    go false e h again = again h

no_longer : (ss : List Begun) (op : OpName) → length (without_begun ss op) ≤ length ss
no_longer [] op = omega arith
no_longer (r ∷ ss) op = go (is_of op r) (no_longer ss op)
  where
    go : (b : Bool) → length (without_begun ss op) ≤ length ss → length (cond (not b) (r ∷ without_begun ss op) (without_begun ss op)) ≤ length (r ∷ ss)
    go true h = omega (arith, h)
    go false h = omega (arith, h)

pub without_shorter : (ss : List Begun) (op : OpName) (s : Begun) → find (is_of op) ss ≡ Some s → length (without_begun ss op) < length ss
without_shorter [] op s h = absurd cc
without_shorter (r ∷ ss) op s h = go (is_of op r) (no_longer ss op) (without_shorter ss op s) h
  where
    go : (b : Bool) → length (without_begun ss op) ≤ length ss → (find (is_of op) ss ≡ Some s → length (without_begun ss op) < length ss) → cond b (Some r) (find (is_of op) ss) ≡ Some s
        → length (cond (not b) (r ∷ without_begun ss op) (without_begun ss op)) < length (r ∷ ss)
    go true k again h = omega (arith, k)
    go false k again h = omega (arith, again h)

pub length-pending : (ss : List Begun) → length (map pending_of ss) ≡ length ss
length-pending [] = refl
length-pending (s ∷ ss) = omega (arith, length-pending ss)

pub pending_without : (ss : List Begun) (op : OpName) → filter (λ x. not (same_op x.op op)) (map pending_of ss) ≡ map pending_of (without_begun ss op)
pending_without [] op = refl
pending_without (r ∷ ss) op = go (same_op r.op op) (pending_without ss op)
  where
    go : (b : Bool) → filter (λ x. not (same_op x.op op)) (map pending_of ss) ≡ map pending_of (without_begun ss op)
        → cond (not b) (pending_of r ∷ filter (λ x. not (same_op x.op op)) (map pending_of ss)) (filter (λ x. not (same_op x.op op)) (map pending_of ss)) ≡ map pending_of (cond (not b) (r ∷ without_begun ss op) (without_begun ss op))
    go true h = h
    go false h = ap (λ (rest : List PendingOperation). pending_of r ∷ rest) h

-- ---- The timers belong to pending operations

pub find-occurs : (ss : List Begun) (op : OpName) → 1 ≤ occurs ss op → (s : Begun) × (find (is_of op) ss ≡ Some s)
find-occurs [] op h = absurd (omega arith)
find-occurs (r ∷ ss) op h = go (is_of op r) h (find-occurs ss op)
  where
    go : (b : Bool) → 1 ≤ cond b (occurs ss op + 1) (occurs ss op) → (1 ≤ occurs ss op → (s : Begun) × (find (is_of op) ss ≡ Some s)) → (s : Begun) × (cond b (Some r) (find (is_of op) ss) ≡ Some s)
    go true h again = (r, refl)
    go false h again = again h

Each-append : {X : Type 0} (P : X → Type 0) (xs ys : List X) → Each P xs → Each P ys → Each P (xs ++ ys)
Each-append P [] ys h k = k
Each-append P (x ∷ xs) ys h k = (h.0, Each-append P xs ys h.1 k)

-- an element that is kept passes the test
Each-kept : {X : Type 0} (P Q : X → Type 0) (p : X → Bool) (xs : List X) → ((x : X) → p x ≡ true → P x → Q x) → Each P xs → Each Q (filter p xs)
Each-kept P Q p [] w h = tt
Each-kept P Q p (x ∷ xs) w h = go (p x) refl (Each-kept P Q p xs w h.1)
  where
    go : (b : Bool) → p x ≡ b → Each Q (filter p xs) → Each Q (cond b (x ∷ filter p xs) (filter p xs))
    go true e again = (w x e h.0, again)
    go false e again = again

pub same_op-sym : (a b : OpName) → same_op a b ≡ same_op b a
same_op-sym a b = grind (arith, nat_tests)

abbrev pub Timed : List Entry → Type 0
Timed before = Each (λ x. 1 ≤ occurs (pend before) x.op) (timers before)

at_least : (b : Bool) (n : ℕ) → 1 ≤ n → 1 ≤ cond b (n + 1) n
at_least true n h = omega arith
at_least false n h = h

begun_timed : (before : List Entry) (op : OpName) (s : Begun) (d : Option ℕ) → s.op ≡ op → Timed before → Each (λ x. 1 ≤ occurs (pend before ++ s ∷ []) x.op) (timers before ++ timer_of op d)
begun_timed before op s d named h =
    Each-append _ (timers before) (timer_of op d) (Each-weaker (λ (x : Timer). 1 ≤ occurs (pend before) x.op) (λ (x : Timer). 1 ≤ occurs (pend before ++ s ∷ []) x.op) (λ x k. rw (occurs-append (pend before) s x.op) (at_least (is_of x.op s) (occurs (pend before) x.op) k)) (timers before) h) (last d)
  where
    here : 1 ≤ occurs (pend before ++ s ∷ []) op
    here =
        let same : is_of op s ≡ true = subst (λ (o : OpName). same_op o op ≡ true) (sym named) (same_op-refl op) in
        rw (occurs-append (pend before) s op, same) (omega arith)

    last : (d : Option ℕ) → Each (λ (x : Timer). 1 ≤ occurs (pend before ++ s ∷ []) x.op) (timer_of op d)
    last None = tt
    last (Some due) = (here, tt)

not_true : (b : Bool) → not b ≡ true → b ≡ false
not_true true h = absurd cc
not_true false h = refl

timed_next : (z : Setting) (k : ℕ) (before : List Entry) (e : Entry) → Timed before → Allowed z k before e → Timed (e ∷ before)
timed_next z k before (Begin op caller c act d) h a = begun_timed before op (record { op = op; ctx = c; act = act }) d refl h
timed_next z k before (End op ending) h a =
    Each-kept (λ (x : Timer). 1 ≤ occurs (pend before) x.op) (λ (x : Timer). 1 ≤ occurs (without_begun (pend before) op) x.op) (λ x. not (same_op x.op op)) (timers before) (λ x p q. rw (occurs-without_other (pend before) op x.op (same_op-sym op x.op ∙ not_true _ p)) q) h
timed_next z k before (Tick t due) h a = Each-filter (λ (x : Timer). 1 ≤ occurs (pend before) x.op) (λ d. not (is_due t d)) (timers before) h
timed_next z k before _ h a = h

pub timed : (t : Moment) → Lawful t → Timed (past t)
timed t l = by_steps t Timed tt (timed_next t.z) l

same_slot : (a b : OpName) → (a.slot ≡ b.slot → a.generation ≡ b.generation) → (a.slot == b.slot) ≡ same_op a b
same_slot a b h = go (a.slot == b.slot) refl (a.generation == b.generation) refl
  where
    go : (x : Bool) → (a.slot == b.slot) ≡ x → (y : Bool) → (a.generation == b.generation) ≡ y → x ≡ (x && y)
    go true e true f = refl
    go true e false f =
        let s : a.slot ≡ b.slot = grind (arith, nat_tests) in
        let g : a.generation ≡ b.generation = h s in
        absurd (grind (arith, nat_tests))
    go false e y f = refl

-- an operation of the slot whose timer is left is the one
the_one : (t : Moment) (op : OpName) (s : Begun) → Lawful t → pending (past t) op ≡ Some s → (x : Timer) → 1 ≤ occurs (pend (past t)) x.op → (x.op.slot == op.slot) ≡ same_op x.op op
the_one t op s l p x k =
    let found = find-occurs (pend (past t)) x.op k in
    let a : x.op.generation ≡ begins (past t) x.op.slot = (current t x.op found.0 l found.1).0 in
    let b : op.generation ≡ begins (past t) op.slot = (current t op s l p).0 in
    same_slot x.op op (λ e. a ∙ ap (begins (past t)) e ∙ sym b)

filter_alike : (p q : Timer → Bool) (ts : List Timer) → Each (λ x. p x ≡ q x) ts → filter p ts ≡ filter q ts
filter_alike p q [] h = refl
filter_alike p q (x ∷ ts) h = rw (h.0, filter_alike p q ts h.1) refl

pub timers_left : (t : Moment) (op : OpName) (s : Begun) → Lawful t → pending (past t) op ≡ Some s → filter (λ x. not (x.op.slot == op.slot)) (timers (past t)) ≡ filter (λ x. not (same_op x.op op)) (timers (past t))
timers_left t op s l p =
    filter_alike (λ x. not (x.op.slot == op.slot)) (λ x. not (same_op x.op op)) (timers (past t)) (Each-weaker (λ (x : Timer). 1 ≤ occurs (pend (past t)) x.op) (λ (x : Timer). not (x.op.slot == op.slot) ≡ not (same_op x.op op)) (λ x k. ap not (the_one t op s l p x k)) (timers (past t)) (timed t l))

-- ---- Slots

module _ (i : ℕ) (op : OpName) where
  with_or_without : (ss : List Begun) → (list_any (is_at i) (without_begun ss op) || (op.slot == i)) ≡ (list_any (is_at i) ss || (op.slot == i))
  with_or_without [] = refl
  with_or_without (r ∷ ss) = go (is_of op r) refl (is_at i r) refl (with_or_without ss)
    where
      absorbed : (c w s : Bool) → (w || c) ≡ (s || c) → (w || c) ≡ ((c || s) || c)
      absorbed true true s h = refl
      absorbed true false s h = refl
      absorbed false w s h = h

      go : (b : Bool) → is_of op r ≡ b → (a : Bool) → is_at i r ≡ a → (list_any (is_at i) (without_begun ss op) || (op.slot == i)) ≡ (list_any (is_at i) ss || (op.slot == i))
          → (list_any (is_at i) (cond (not b) (r ∷ without_begun ss op) (without_begun ss op)) || (op.slot == i)) ≡ ((a || list_any (is_at i) ss) || (op.slot == i))
      go true e a f again =
          let same : (op.slot == i) ≡ a = ap (λ (o : OpName). o.slot == i) (sym (same_op-eq r.op op e)) ∙ f in
          rw (← same) (absorbed (op.slot == i) (list_any (is_at i) (without_begun ss op)) (list_any (is_at i) ss) again)
      go false e true f again = rw f refl
      go false e false f again = rw f again

  there : (ss : List Begun) (s : Begun) → find (is_of op) ss ≡ Some s → (op.slot == i) ≡ true → list_any (is_at i) ss ≡ true
  there [] s h e = absurd cc
  there (r ∷ ss) s h e = go (is_of op r) refl (is_at i r) refl h (there ss s)
    where
      go : (b : Bool) → is_of op r ≡ b → (a : Bool) → is_at i r ≡ a → cond b (Some r) (find (is_of op) ss) ≡ Some s → (find (is_of op) ss ≡ Some s → (op.slot == i) ≡ true → list_any (is_at i) ss ≡ true) → (a || list_any (is_at i) ss) ≡ true
      go b f true g h again = refl
      go true f false g h again =
          let no : false ≡ true = sym g ∙ ap (λ (o : OpName). o.slot == i) (same_op-eq r.op op f) ∙ e in
          absurd cc
      go false f false g h again = again h e

  moved : (w s u c : Bool) → (w || c) ≡ (s || c) → (c ≡ true → s ≡ true) → (not w && not (u || (c || false))) ≡ (not s && not u)
  moved true s u true h k = rw (k refl) refl
  moved false s true true h k = rw (k refl) refl
  moved false s false true h k = rw (k refl) refl
  moved true true u false h k = refl
  moved true false u false h k = absurd cc
  moved false true u false h k = absurd cc
  moved false false true false h k = refl
  moved false false false false h k = refl

  -- a slot is taken by an operation that is pending and by one that was not collected
  pub as_free : (before : List Entry) (s : Begun) (ending : Ending) → pending before op ≡ Some s → is_free (End op ending ∷ before) i ≡ is_free before i
  as_free before s ending p =
      let named = find-named (pend before) op s p in
      let slot : is_at i s ≡ (op.slot == i) = ap (λ (o : OpName). o.slot == i) named in
      let more : list_any (λ (e : OperationEnd). is_at i e.begun) (uncollected before ++ record { begun = s; ending = ending } ∷ []) ≡ (list_any (λ (e : OperationEnd). is_at i e.begun) (uncollected before) || ((op.slot == i) || false)) =
      list_any-append (λ (e : OperationEnd). is_at i e.begun) (uncollected before) (record { begun = s; ending = ending } ∷ []) ∙ ap (λ (b : Bool). list_any (λ (e : OperationEnd). is_at i e.begun) (uncollected before) || (b || false)) slot in
      rw (p, more) (moved (list_any (is_at i) (without_begun (pend before) op)) (list_any (is_at i) (pend before)) (list_any (λ (e : OperationEnd). is_at i e.begun) (uncollected before)) (op.slot == i) (with_or_without (pend before)) (there (pend before) s p))

-- no operation is pending twice
pub pend_apart : (t : Moment) → Lawful t → AreApart (pend (past t))
pend_apart t l op = let c = counted t op l in omega (arith, c.0, c.1)
