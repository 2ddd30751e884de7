-- What the history says about an operation that its caller began and did not collect.
use Rattle.std.proofs.Common.{◌≡◌, refl, ap, sym, ◌∙◌, subst, List, [], ◌∷◌, ◌++◌, ℕ, ◌+◌, ◌<◌, ◌≤◌, Bool, true, false, cond, arith, Option, Some, inl, inr}
use Rattle.std.specs.Prelude.{filter, not, ◌||◌, ◌⊎◌}
use Rattle.std.specs.List.{list_any}
use Rattle.std.proofs.lemmas.List.Folds.{list_any-append}
use Rattle.aio_word.specs.Views.{Stands}
use Rattle.sp_base.specs.declared.OpName.{OpName}
use Rattle.sp_history.specs.declared.entry.RecordedAct.{RecordedAct}
use Rattle.sp_history.specs.declared.entry.Ending.{Ending}
use Rattle.sp_history.specs.declared.entry.Entry.{Entry}
use Rattle.sp_history.specs.declared.entry.Entry.TheVariants.{Begin, End, Took, Down, Out, Full, Dry}
use Rattle.sp_history.specs.declared.parts.Begun.{Begun}
use Rattle.sp_history.specs.declared.parts.OperationEnd.{OperationEnd}
use Rattle.sp_history.specs.declared.setting.Setting.{Setting}
use Rattle.sp_history.specs.Lists.{same_op}
use Rattle.sp_history.specs.Past.{is_of, without_begun, pend, pending, uncollected, ended_as, caller_of, begins}
use Rattle.sp_history.specs.Once.{occurs, begin_count, took_count}
use Rattle.sp_history.specs.Legal.{Allowed, is_uncollected}
use Rattle.sp_history.specs.Moments.{Moment, past, also, Lawful}
use Rattle.sp_history.proofs.OnceHolds.{same_op-refl, same_op-eq, has_value, occurs-append, occurs-without_other}
use Rattle.sp_core.specs.Moving.{AreSettling}
use Rattle.sp_core.specs.Collecting.{IsOpenBefore, HasEnded}
use Rattle.core_state.proofs.Lawfuls.{by_steps, counted}
use Rattle.core_state.proofs.PendingEnds.{find-named, find-occurs}
use Rattle.core_state.proofs.Elements.{stands-more, contains, Every, every-append, every-filter, every-one, find-stands}

-- ---- Begins and ends are in the history

abbrev Began : List Entry → Begun → Type 0
Began before s = (k : ℕ) × (d : Option ℕ) × Stands (Begin s.op k s.ctx s.act d) before

abbrev Finished : List Entry → OperationEnd → Type 0
Finished before e = Began before e.begun × Stands (End e.begun.op e.ending) before

abbrev Told : List Entry → Type 0
Told before = Every (Began before) (pend before) × Every (Finished before) (uncollected before)

began-more : (before : List Entry) (e : Entry) (s : Begun) → Began before s → Began (e ∷ before) s
began-more before e s h = (h.0, h.1, inr h.2)

finished-more : (before : List Entry) (e : Entry) (x : OperationEnd) → Finished before x → Finished (e ∷ before) x
finished-more before e x h = (began-more before e x.begun h.0, inr h.1)

later_told : (before : List Entry) (e : Entry) → Told before → Every (Began (e ∷ before)) (pend before) × Every (Finished (e ∷ before)) (uncollected before)
later_told before e h = (λ s m. began-more before e s (h.0 s m), λ x m. finished-more before e x (h.1 x m))

told_next : (z : Setting) (k : ℕ) (before : List Entry) (e : Entry) → Told before → Allowed z k before e → Told (e ∷ before)
told_next z k before (Begin op caller c act d) h a =
    let e : Entry = Begin op caller c act d in
    let l = later_told before e h in
    let s : Begun = record { op = op; ctx = c; act = act } in
    (every-append (Began (e ∷ before)) (pend before) (s ∷ []) l.0 (every-one (Began (e ∷ before)) s (caller, d, inl refl)), l.1)
told_next z k before (End op ending) h a =
    let e : Entry = End op ending in
    let l = later_told before e h in
    let found = has_value (pending before op) _ a.itself in
    let s = found.0 in
    let named : s.op ≡ op = find-named (pend before) op s found.1 in
    let x : OperationEnd = record { begun = s; ending = ending } in
    let done : Finished (e ∷ before) x = (l.0 s (find-stands (pend before) op s found.1), inl (ap (λ (o : OpName). End o ending) (sym named))) in
    (every-filter (Began (e ∷ before)) (λ s. not (is_of op s)) (pend before) l.0, every-append (Finished (e ∷ before)) (uncollected before) (ended_as ending (pending before op)) l.1 (rw found.1 (every-one (Finished (e ∷ before)) x done)))
told_next z k before (Took op by) h a =
    let l = later_told before (Took op by) h in
    (l.0, every-filter (Finished (Took op by ∷ before)) (λ e. not (same_op e.begun.op op)) (uncollected before) l.1)
told_next z k before e h a = later_told before e h

told : (t : Moment) → Lawful t → Told (past t)
told t l = by_steps t Told (λ s m. absurd m, λ x m. absurd m) (told_next t.z) l

-- ---- Who began it

counts_begin : (before : List Entry) (op : OpName) (k c : ℕ) (act : RecordedAct) (d : Option ℕ) → Stands (Begin op k c act d) before → 1 ≤ begin_count before op
counts_begin [] op k c act d h = absurd h
counts_begin (e ∷ before) op k c act d (inl same) = subst (λ (x : Entry). 1 ≤ begin_count (x ∷ before) op) (sym same) here
  where
    here : 1 ≤ begin_count (Begin op k c act d ∷ before) op
    here = rw (same_op-refl op) (omega arith)
counts_begin (e ∷ before) op k c act d (inr h) = more e (counts_begin before op k c act d h)
  where
    at_least : (b : Bool) (n : ℕ) → 1 ≤ n → 1 ≤ cond b (n + 1) n
    at_least true n h = omega arith
    at_least false n h = h

    more : (e : Entry) → 1 ≤ begin_count before op → 1 ≤ begin_count (e ∷ before) op
    more (Begin other caller c act d) h = at_least (same_op other op) (begin_count before op) h
    more _ h = h

the_caller : (before : List Entry) (op : OpName) (j k c : ℕ) (act : RecordedAct) (d : Option ℕ) → Stands (Begin op j c act d) before → begin_count before op ≤ 1 → caller_of before op ≡ Some k → j ≡ k
the_caller [] op j k c act d h m q = absurd h
the_caller (e ∷ before) op j k c act d (inl same) m q = here (subst (λ (x : Entry). caller_of (x ∷ before) op ≡ Some k) same q)
  where
    here : caller_of (Begin op j c act d ∷ before) op ≡ Some k → j ≡ k
    here q = let found : Some j ≡ Some k = sym (ap (λ (b : Bool). cond b (Some j) (caller_of before op)) (same_op-refl op)) ∙ q in cc
the_caller (Begin other caller c2 act2 d2 ∷ before) op j k c act d (inr h) m q = go (same_op other op) m q (the_caller before op j k c act d h)
  where
    go : (b : Bool) → cond b (begin_count before op + 1) (begin_count before op) ≤ 1 → cond b (Some caller) (caller_of before op) ≡ Some k → (begin_count before op ≤ 1 → caller_of before op ≡ Some k → j ≡ k) → j ≡ k
    go true m q again = absurd (omega (arith, m, counts_begin before op j c act d h))
    go false m q again = again m q
the_caller (_ ∷ before) op j k c act d (inr h) m q = the_caller before op j k c act d h m q

-- how the operation ended
pub has_ended : (t : Moment) (e : OperationEnd) (op : OpName) (k : ℕ) (after : List Entry) → Lawful t → Stands e (uncollected (past t)) → e.begun.op ≡ op → caller_of (past t) op ≡ Some k → HasEnded op k e.begun e.ending (after ++ past t)
has_ended t e op k after l s named caller =
    let f = (told t l).1 e s in
    let by : f.0.0 ≡ k = the_caller (past t) op f.0.0 k e.begun.ctx e.begun.act f.0.1 (subst (λ (o : OpName). Stands (Begin o f.0.0 e.begun.ctx e.begun.act f.0.1) (past t)) named f.0.2) (counted t op l).1 caller in
    let begun : Stands (Begin op k e.begun.ctx e.begun.act f.0.1) (past t) = subst (λ (o : OpName). Stands (Begin o k e.begun.ctx e.begun.act f.0.1) (past t)) named (subst (λ (n : ℕ). Stands (Begin e.begun.op n e.begun.ctx e.begun.act f.0.1) (past t)) by f.0.2) in
    let ended : Stands (End op e.ending) (past t) = subst (λ (o : OpName). Stands (End o e.ending) (past t)) named f.1 in
    record {
      named = named;
      deadline = f.0.1;
      begun = contains (after ++ past t) _ (stands-more after (past t) _ begun);
      ended = contains (after ++ past t) _ (stands-more after (past t) _ ended);
    }

-- ---- What settling leaves

pub still_open : (es : List Entry) (before : List Entry) (k : ℕ) (op : OpName) → AreSettling es → IsOpenBefore k op before → IsOpenBefore k op (es ++ before)
still_open [] before k op s h = h
still_open (Down p why ∷ es) before k op s h = let r = still_open es before k op s.1 h in (r.0, r.1)
still_open (Out p b ∷ es) before k op s h = let r = still_open es before k op s.1 h in (r.0, r.1)
still_open (Full p ∷ es) before k op s h = let r = still_open es before k op s.1 h in (r.0, r.1)
still_open (End other ending ∷ es) before k op s h = let r = still_open es before k op s.1 h in (r.0, r.1)
still_open (Dry c ∷ es) before k op s h = let r = still_open es before k op s.1 h in (r.0, r.1)
still_open (_ ∷ es) before k op s h = absurd s.0

-- ---- Its name

abbrev Named : Setting → OpName → List Entry → Type 0
Named z op before = (k : ℕ) → caller_of before op ≡ Some k → (op.slot < z.slots) × (0 < op.generation)

named_begun : (z : Setting) (before : List Entry) (other op : OpName) (caller : ℕ) → other.slot < z.slots → other.generation ≡ begins before other.slot + 1 → Named z op before → (b : Bool) → same_op other op ≡ b → (k : ℕ) → cond b (Some caller) (caller_of before op) ≡ Some k → (op.slot < z.slots) × (0 < op.generation)
named_begun z before other op caller s g h true e k q =
    let same : other ≡ op = same_op-eq other op e in
    let slot : other.slot ≡ op.slot = ap (λ (o : OpName). o.slot) same in
    let gen : other.generation ≡ op.generation = ap (λ (o : OpName). o.generation) same in
    (omega (arith, s, slot), omega (arith, g, gen))
named_begun z before other op caller s g h false e k q = h k q

named_next : (z : Setting) (op : OpName) (k : ℕ) (before : List Entry) (e : Entry) → Named z op before → Allowed z k before e → Named z op (e ∷ before)
named_next z op k before (Begin other caller c act d) h a = λ j q. named_begun z before other op caller a.itself.slot_in_range a.itself.generation h (same_op other op) refl j q
named_next z op k before _ h a = h

pub named : (t : Moment) (op : OpName) (k : ℕ) → Lawful t → caller_of (past t) op ≡ Some k → (op.slot < t.z.slots) × (0 < op.generation)
named t op k l q = by_steps t (Named t.z op) (λ k q. absurd cc) (named_next t.z op) l k q

-- ---- It is pending, or it ended

abbrev StillThere : OpName → List Entry → Type 0
StillThere op before = (k : ℕ) → caller_of before op ≡ Some k → took_count before op ≡ 0 → (1 ≤ occurs (pend before) op) ⊎ (is_uncollected before op ≡ true)

begun_there : (before : List Entry) (other op : OpName) (caller : ℕ) (s : Begun) → s.op ≡ other → StillThere op before → (b : Bool) → same_op other op ≡ b → (k : ℕ) → cond b (Some caller) (caller_of before op) ≡ Some k → took_count before op ≡ 0
    → (1 ≤ occurs (pend before ++ s ∷ []) op) ⊎ (is_uncollected before op ≡ true)
begun_there before other op caller s is h true e k q n =
    let same : is_of op s ≡ true = ap (λ (o : OpName). same_op o op) is ∙ e in
    inl (rw (occurs-append (pend before) s op, same) (omega arith))
begun_there before other op caller s is h false e k q n = go (h k q n)
  where
    apart : is_of op s ≡ false
    apart = ap (λ (o : OpName). same_op o op) is ∙ e

    go : (1 ≤ occurs (pend before) op) ⊎ (is_uncollected before op ≡ true) → (1 ≤ occurs (pend before ++ s ∷ []) op) ⊎ (is_uncollected before op ≡ true)
    go (inl m) = inl (rw (occurs-append (pend before) s op, apart) m)
    go (inr m) = inr m

or_false : (b : Bool) → (b || false) ≡ b
or_false true = refl
or_false false = refl

or_true : (a : Bool) → (a || true) ≡ true
or_true true = refl
or_true false = refl

ended_there : (before : List Entry) (other op : OpName) (x : OperationEnd) → x.begun.op ≡ other → (1 ≤ occurs (pend before) op) ⊎ (is_uncollected before op ≡ true)
    → (1 ≤ occurs (without_begun (pend before) other) op) ⊎ (list_any (λ (e : OperationEnd). is_of op e.begun) (uncollected before ++ x ∷ []) ≡ true)
ended_there before other op x is h = go (same_op other op) refl h
  where
    more : list_any (λ (e : OperationEnd). is_of op e.begun) (uncollected before ++ x ∷ []) ≡ (is_uncollected before op || same_op other op)
    more = list_any-append (λ (e : OperationEnd). is_of op e.begun) (uncollected before) (x ∷ []) ∙ ap (λ (b : Bool). is_uncollected before op || b) (or_false (is_of op x.begun) ∙ ap (λ (o : OpName). same_op o op) is)

    go : (b : Bool) → same_op other op ≡ b → (1 ≤ occurs (pend before) op) ⊎ (is_uncollected before op ≡ true)
        → (1 ≤ occurs (without_begun (pend before) other) op) ⊎ (list_any (λ (e : OperationEnd). is_of op e.begun) (uncollected before ++ x ∷ []) ≡ true)
    go true e h = inr (more ∙ ap (λ (b : Bool). is_uncollected before op || b) e ∙ or_true (is_uncollected before op))
    go false e (inl m) = inl (rw (occurs-without_other (pend before) other op e) m)
    go false e (inr m) = inr (more ∙ ap (λ (b : Bool). b || same_op other op) m)

others_stay : (es : List OperationEnd) (other op : OpName) → same_op other op ≡ false → list_any (λ (e : OperationEnd). is_of op e.begun) es ≡ true → list_any (λ (e : OperationEnd). is_of op e.begun) (filter (λ e. not (same_op e.begun.op other)) es) ≡ true
others_stay [] other op n h = h
others_stay (r ∷ es) other op n h = go (same_op r.begun.op other) refl (is_of op r.begun) refl h (others_stay es other op n)
  where
    go : (b : Bool) → same_op r.begun.op other ≡ b → (c : Bool) → is_of op r.begun ≡ c → (c || list_any (λ (e : OperationEnd). is_of op e.begun) es) ≡ true
        → (list_any (λ (e : OperationEnd). is_of op e.begun) es ≡ true → list_any (λ (e : OperationEnd). is_of op e.begun) (filter (λ e. not (same_op e.begun.op other)) es) ≡ true)
        → list_any (λ (e : OperationEnd). is_of op e.begun) (cond (not b) (r ∷ filter (λ e. not (same_op e.begun.op other)) es) (filter (λ e. not (same_op e.begun.op other)) es)) ≡ true
    go true e true f h again =
        let is : r.begun.op ≡ other = same_op-eq r.begun.op other e in
        let q : false ≡ true = sym n ∙ ap (λ (o : OpName). same_op o op) (sym is) ∙ f in
        absurd cc
    go true e false f h again = again h
    go false e true f h again = ap (λ (b : Bool). b || list_any (λ (e : OperationEnd). is_of op e.begun) (filter (λ e. not (same_op e.begun.op other)) es)) f
    go false e false f h again = ap (λ (b : Bool). b || list_any (λ (e : OperationEnd). is_of op e.begun) (filter (λ e. not (same_op e.begun.op other)) es)) f ∙ again h

took_there : (before : List Entry) (other op : OpName) → StillThere op before → (b : Bool) → same_op other op ≡ b → (k : ℕ) → caller_of before op ≡ Some k → cond b (took_count before op + 1) (took_count before op) ≡ 0
    → (1 ≤ occurs (pend before) op) ⊎ (list_any (λ (e : OperationEnd). is_of op e.begun) (filter (λ e. not (same_op e.begun.op other)) (uncollected before)) ≡ true)
took_there before other op h true e k q n = absurd (omega (arith, n))
took_there before other op h false e k q n = go (h k q n)
  where
    go : (1 ≤ occurs (pend before) op) ⊎ (is_uncollected before op ≡ true) → (1 ≤ occurs (pend before) op) ⊎ (list_any (λ (e : OperationEnd). is_of op e.begun) (filter (λ e. not (same_op e.begun.op other)) (uncollected before)) ≡ true)
    go (inl m) = inl m
    go (inr m) = inr (others_stay (uncollected before) other op e m)

there_next : (z : Setting) (op : OpName) (k : ℕ) (before : List Entry) (e : Entry) → StillThere op before → Allowed z k before e → StillThere op (e ∷ before)
there_next z op k before (Begin other caller c act d) h a = begun_there before other op caller (record { op = other; ctx = c; act = act }) refl h (same_op other op) refl
there_next z op k before (End other ending) h a =
    λ j q n.
    let found = has_value (pending before other) _ a.itself in
    let x : OperationEnd = record { begun = found.0; ending = ending } in
    rw found.1 (ended_there before other op x (find-named (pend before) other found.0 found.1) (h j q n))
there_next z op k before (Took other by) h a = took_there before other op h (same_op other op) refl
there_next z op k before _ h a = h

-- what was not collected and has not ended is pending
pub pending_still : (t : Moment) (op : OpName) (k : ℕ) → Lawful t → IsOpenBefore k op (past t) → is_uncollected (past t) op ≡ false → (s : Begun) × (pending (past t) op ≡ Some s)
pending_still t op k l o n = go (by_steps t (StillThere op) (λ k q m. absurd cc) (there_next t.z op) l k o.0 o.1)
  where
    go : (1 ≤ occurs (pend (past t)) op) ⊎ (is_uncollected (past t) op ≡ true) → (s : Begun) × (pending (past t) op ≡ Some s)
    go (inl m) = find-occurs (pend (past t)) op m
    go (inr m) = let q : false ≡ true = sym n ∙ m in absurd cc

-- what has just ended was not collected
pub ended_now : (t : Moment) (op : OpName) (s : Begun) (ending : Ending) → pending (past t) op ≡ Some s → is_uncollected (past (also t (End op ending))) op ≡ true
ended_now t op s ending p =
    let x : OperationEnd = record { begun = s; ending = ending } in
    let named : s.op ≡ op = find-named (pend (past t)) op s p in
    let same : is_of op s ≡ true = ap (λ (o : OpName). same_op o op) named ∙ same_op-refl op in
    rw p (list_any-append (λ (e : OperationEnd). is_of op e.begun) (uncollected (past t)) (x ∷ []) ∙ ap (λ (b : Bool). is_uncollected (past t) op || (b || false)) same ∙ or_true (is_uncollected (past t) op))
