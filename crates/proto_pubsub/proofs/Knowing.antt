-- What the past of a sub says about its contexts and receives.
use Rattle.std.proofs.Common.{◌≡◌, refl, ap, sym, ◌∙◌, subst, List, [], ◌∷◌, ◌++◌, ℕ, Bool, true, false, cond, arith, Some, ◌<◌}
use Rattle.std.specs.Prelude.{find, filter, drop, not, ⊤, ◌&&◌, ◌||◌, ◌==◌}
use Rattle.std.specs.List.{list_any}
use Rattle.std.proofs.lemmas.Bool.Decides.{nat_tests}
use Rattle.sp_base.specs.declared.OpName.{OpName}
use Rattle.sp_base.specs.declared.role.Role.{Role}
use Rattle.sp_base.specs.declared.role.Role.TheVariants as role
use Rattle.sp_base.specs.Roles.{has_contexts as role_has_contexts}
use Rattle.sp_history.specs.declared.setting.Setting.{Setting}
use Rattle.sp_history.specs.declared.entry.Entry.{Entry}
use Rattle.sp_history.specs.declared.entry.Entry.TheVariants.{Down, Frame, Unkept, Begin, End, Ctx, Topic, Dry, Close}
use Rattle.sp_history.specs.declared.entry.Ending.TheVariants.{Won, Gone}
use Rattle.sp_history.specs.declared.entry.Completion.TheVariants.{Received, Sent}
use Rattle.sp_history.specs.declared.entry.ContextChange.TheVariants.{Open, Shut}
use Rattle.sp_history.specs.declared.entry.Switch.TheVariants.{On, Off}
use Rattle.sp_history.specs.declared.parts.Begun.{Begun}
use Rattle.sp_history.specs.declared.parts.Item.{Item}
use Rattle.sp_history.specs.declared.parts.Keeping.{Keeping}
use Rattle.sp_history.specs.declared.parts.Keeping.TheVariants.{Everywhere, Nowhere, Below}
use Rattle.sp_history.specs.Lists.{has, without, same_bytes}
use Rattle.sp_history.specs.Setting.{is_reply}
use Rattle.sp_history.specs.Past.{is_of, without_begun, pend, pending, ctxs, topics, opened}
use Rattle.sp_history.specs.Kept.{pool, pool_keeping, pool_of, kept, keeps, takes, add_for, is_on_pool, is_wanted_by, is_from}
use Rattle.sp_history.specs.Frames.{item_of, is_too_long}
use Rattle.sp_history.specs.Legal.{AreAllowed}
use Rattle.sp_history.specs.Once.{AreApart}
use Rattle.sp_history.specs.Moments.{Moment, Lawful, AllowedBack, past, also}
use Rattle.sp_history.proofs.Backing.{legal_allowed}
use Rattle.sp_history.proofs.OnceHolds.{Counted, counted_next}
use Rattle.sp_history.proofs.LiveRequests.{opened_low}

-- ---- Each entry was allowed

all_allowed : (z : Setting) (k : ℕ) (before turn : List Entry) → AreAllowed z before → AllowedBack z k before turn → AreAllowed z (turn ++ before)
all_allowed z k before [] h b = h
all_allowed z k before (e ∷ turn) h b = ((k, b.0), all_allowed z k before turn h b.1)

pub allowed : (t : Moment) → Lawful t → AreAllowed t.z (past t)
allowed t l = all_allowed t.z t.caller t.before t.turn (subst (λ (q : List Entry). AreAllowed t.z q) (sym l.before) (legal_allowed t.z l.history l.legal)) l.turn

pub allowed_before : (t : Moment) (e : Entry) → Lawful (also t e) → AreAllowed t.z (past t)
allowed_before t e l = (allowed (also t e) l).1

-- ---- Names of operations

counted : (z : Setting) (before : List Entry) (op : OpName) → AreAllowed z before → Counted before op
counted z [] op a = (refl, omega arith, λ p. omega arith)
counted z (e ∷ before) op a = counted_next z a.0.0 before e op (counted z before op a.1) a.0.1.itself

pub apart : (z : Setting) (before : List Entry) → AreAllowed z before → AreApart (pend before)
apart z before a op = let c = counted z before op a in omega (arith, c.0, c.1)

-- ---- Open contexts

pub equal_of : (m n : ℕ) → (m == n) ≡ true → m ≡ n
equal_of m n h = grind (arith, nat_tests)

pub has_first : (cs ds : List ℕ) (c : ℕ) → has cs c ≡ true → has (cs ++ ds) c ≡ true
has_first [] ds c h = absurd cc
has_first (x ∷ cs) ds c h = go (x == c) h (has_first cs ds c)
  where
    go : (b : Bool) → (b || has cs c) ≡ true → (has cs c ≡ true → has (cs ++ ds) c ≡ true) → (b || has (cs ++ ds) c) ≡ true
    go true h again = refl
    go false h again = again h

pub has_still : (cs : List ℕ) (c d : ℕ) → has cs d ≡ true → (d == c) ≡ false → has (without cs c) d ≡ true
has_still [] c d h k = absurd cc
has_still (x ∷ cs) c d h k = go (x == c) refl (x == d) refl h (has_still cs c d)
  where
    third : (l m n : ℕ) → (l == m) ≡ true → (l == n) ≡ true → (n == m) ≡ false → ⊥
    third l m n h k f = grind (arith, nat_tests)

    go : (a : Bool) → (x == c) ≡ a → (b : Bool) → (x == d) ≡ b → (b || has cs d) ≡ true → (has cs d ≡ true → (d == c) ≡ false → has (without cs c) d ≡ true) → has (cond (not a) (x ∷ without cs c) (without cs c)) d ≡ true
    go true f true g h again = absurd (third x c d f g k)
    go true f false g h again = again h k
    go false f true g h again = rw g refl
    go false f false g h again = rw g (again h k)

pub has_without : (cs : List ℕ) (c d : ℕ) → has (without cs c) d ≡ true → has cs d ≡ true
has_without [] c d h = h
has_without (x ∷ cs) c d h = go (x == c) h (has_without cs c d)
  where
    either : (b e : Bool) → e ≡ true → (b || e) ≡ true
    either true e k = refl
    either false e k = k

    next : (b : Bool) → (b || has (without cs c) d) ≡ true → (has (without cs c) d ≡ true → has cs d ≡ true) → (b || has cs d) ≡ true
    next true k again = refl
    next false k again = again k

    go : (a : Bool) → has (cond (not a) (x ∷ without cs c) (without cs c)) d ≡ true → (has (without cs c) d ≡ true → has cs d ≡ true) → ((x == d) || has cs d) ≡ true
    go true k again = either (x == d) (has cs d) (again k)
    go false k again = next (x == d) k again

-- the numbers rise
abbrev pub IsRising : List ℕ → Type 0
IsRising [] = ⊤
IsRising (c ∷ cs) = ((d : ℕ) → has cs d ≡ true → c < d) × IsRising cs

rising_more : (cs : List ℕ) (c : ℕ) → IsRising cs → ((d : ℕ) → has cs d ≡ true → d < c) → IsRising (cs ++ c ∷ [])
rising_more [] c h k = (λ d q. absurd cc, tt)
rising_more (x ∷ cs) c h k = (λ d q. go d (has cs d) refl q, rising_more cs c h.1 (λ d q. k d (after (x == d) (has cs d) q)))
  where
    after : (a b : Bool) → b ≡ true → (a || b) ≡ true
    after true b q = refl
    after false b q = q

    itself : (n : ℕ) → (n == n) ≡ true
    itself n = grind (arith, nat_tests)

    first : x < c
    first = k x (rw (itself x) refl)

    last : (ds : List ℕ) (d : ℕ) → has (ds ++ c ∷ []) d ≡ true → has ds d ≡ false → d ≡ c
    last [] d q e = one (c == d) refl q
      where
        one : (b : Bool) → (c == d) ≡ b → (b || false) ≡ true → d ≡ c
        one true f q = sym (equal_of c d f)
        one false f q = absurd cc
    last (y ∷ ds) d q e = step (y == d) q e (last ds d)
      where
        step : (b : Bool) → (b || has (ds ++ c ∷ []) d) ≡ true → (b || has ds d) ≡ false → (has (ds ++ c ∷ []) d ≡ true → has ds d ≡ false → d ≡ c) → d ≡ c
        step true q e again = absurd cc
        step false q e again = again q e

    go : (d : ℕ) (b : Bool) → has cs d ≡ b → has (cs ++ c ∷ []) d ≡ true → x < d
    go d true e q = h.0 d e
    go d false e q = subst (λ (n : ℕ). x < n) (sym (last cs d q e)) first

rising_without : (cs : List ℕ) (c : ℕ) → IsRising cs → IsRising (without cs c)
rising_without [] c h = h
rising_without (x ∷ cs) c h = go (x == c) (rising_without cs c h.1)
  where
    go : (b : Bool) → IsRising (without cs c) → IsRising (cond (not b) (x ∷ without cs c) (without cs c))
    go true k = k
    go false k = (λ d q. h.0 d (has_without cs c d q), k)

pub rising : (z : Setting) (before : List Entry) → AreAllowed z before → IsRising (ctxs before)
rising z [] a = (λ d q. absurd cc, tt)
rising z (Ctx c Open ∷ before) a =
    rising_more (ctxs before) c (rising z before a.1) (λ d q. let low = opened_low z before d a.1 q in let now = a.0.1.itself.1 in omega (arith, low, now))
rising z (Ctx c Shut ∷ before) a = rising_without (ctxs before) c (rising z before a.1)
rising z (_ ∷ before) a = rising z before a.1

-- a raw one has only its own context
pub only_zero : (z : Setting) (before : List Entry) (c : ℕ) → AreAllowed z before → z.raw ≡ true → has (ctxs before) c ≡ true → c ≡ 0
only_zero z [] c a r h = go (0 == c) refl h
  where
    go : (b : Bool) → (0 == c) ≡ b → (b || false) ≡ true → c ≡ 0
    go true e h = sym (equal_of 0 c e)
    go false e h = absurd cc
only_zero z (Ctx d Open ∷ before) c a r h = absurd (none (role_has_contexts z.role) z.raw r a.0.1.itself.0)
  where
    none : (a b : Bool) → b ≡ true → (a && not b) ≡ true → ⊥
    none true true e q = absurd cc
    none false true e q = absurd cc
    none a false e q = absurd cc
only_zero z (Ctx d Shut ∷ before) c a r h = only_zero z before c a.1 r (has_without (ctxs before) d c h)
only_zero z (_ ∷ before) c a r h = only_zero z before c a.1 r h

-- each operation is of one of these contexts
abbrev pub AreOfContexts : List ℕ → List Begun → Type 0
AreOfContexts cs [] = ⊤
AreOfContexts cs (s ∷ ss) = (has cs s.ctx ≡ true) × AreOfContexts cs ss

of_contexts_opened : (cs ds : List ℕ) (ss : List Begun) → AreOfContexts cs ss → AreOfContexts (cs ++ ds) ss
of_contexts_opened cs ds [] h = h
of_contexts_opened cs ds (s ∷ ss) h = (has_first cs ds s.ctx h.0, of_contexts_opened cs ds ss h.1)

of_contexts_shut : (cs : List ℕ) (c : ℕ) (ss : List Begun) → AreOfContexts cs ss → list_any (λ (s : Begun). s.ctx == c) ss ≡ false → AreOfContexts (without cs c) ss
of_contexts_shut cs c [] h k = h
of_contexts_shut cs c (s ∷ ss) h k = go (s.ctx == c) refl k (of_contexts_shut cs c ss h.1)
  where
    go : (b : Bool) → (s.ctx == c) ≡ b → (b || list_any (λ (s : Begun). s.ctx == c) ss) ≡ false → (list_any (λ (s : Begun). s.ctx == c) ss ≡ false → AreOfContexts (without cs c) ss) → AreOfContexts (without cs c) (s ∷ ss)
    go true e k again = absurd cc
    go false e k again = (has_still cs c s.ctx h.0 e, again k)

of_contexts_more : (cs : List ℕ) (ss : List Begun) (s : Begun) → AreOfContexts cs ss → has cs s.ctx ≡ true → AreOfContexts cs (ss ++ s ∷ [])
of_contexts_more cs [] s h k = (k, h)
of_contexts_more cs (r ∷ ss) s h k = (h.0, of_contexts_more cs ss s h.1 k)

of_contexts_without : (cs : List ℕ) (ss : List Begun) (op : OpName) → AreOfContexts cs ss → AreOfContexts cs (without_begun ss op)
of_contexts_without cs [] op h = h
of_contexts_without cs (s ∷ ss) op h = go (is_of op s) (of_contexts_without cs ss op h.1)
  where
    go : (b : Bool) → AreOfContexts cs (without_begun ss op) → AreOfContexts cs (cond (not b) (s ∷ without_begun ss op) (without_begun ss op))
    go true k = k
    go false k = (h.0, k)

pub of_contexts : (z : Setting) (before : List Entry) → AreAllowed z before → AreOfContexts (ctxs before) (pend before)
of_contexts z [] a = tt
of_contexts z (Ctx c Open ∷ before) a = of_contexts_opened (ctxs before) (c ∷ []) (pend before) (of_contexts z before a.1)
of_contexts z (Ctx c Shut ∷ before) a = of_contexts_shut (ctxs before) c (pend before) (of_contexts z before a.1) a.0.1.itself.2
of_contexts z (Begin op k c act deadline ∷ before) a = of_contexts_more (ctxs before) (pend before) (record { op = op; ctx = c; act = act }) (of_contexts z before a.1) a.0.1.itself.ctx_open
of_contexts z (End op ending ∷ before) a = of_contexts_without (ctxs before) (pend before) op (of_contexts z before a.1)
of_contexts z (_ ∷ before) a = of_contexts z before a.1

pub context_of : (cs : List ℕ) (ss : List Begun) (op : OpName) (s : Begun) → AreOfContexts cs ss → find (is_of op) ss ≡ Some s → has cs s.ctx ≡ true
context_of cs [] op s h k = absurd cc
context_of cs (r ∷ ss) op s h k = go (is_of op r) k (context_of cs ss op s h.1)
  where
    some_inj : Some r ≡ Some s → r ≡ s
    some_inj q = cc

    go : (b : Bool) → cond b (Some r) (find (is_of op) ss) ≡ Some s → (find (is_of op) ss ≡ Some s → has cs s.ctx ≡ true) → has cs s.ctx ≡ true
    go true k again = subst (λ (q : Begun). has cs q.ctx ≡ true) (some_inj k) h.0
    go false k again = again k

-- ---- Pools

pub pool_of_context : (z : Setting) (before : List Entry) (c : ℕ) → z.role ≡ role.Sub → AreAllowed z before → has (ctxs before) c ≡ true → pool_of z c ≡ c
pool_of_context z before c r a h = by_role ∙ go z.raw refl
  where
    by_role : pool_of z c ≡ cond (not z.raw) c 0
    by_role = rw r refl

    go : (b : Bool) → z.raw ≡ b → cond (not z.raw) c 0 ≡ c
    go true e = ap (λ b. cond (not b) c 0) e ∙ sym (only_zero z before c a e h)
    go false e = ap (λ b. cond (not b) c 0) e

pub kept_of_context : (z : Setting) (before : List Entry) (c : ℕ) → z.role ≡ role.Sub → AreAllowed z before → has (ctxs before) c ≡ true → kept z before c ≡ pool z before c
kept_of_context z before c r a h = by_role ∙ ap (pool z before) (pool_of_context z before c r a h)
  where
    by_role : kept z before c ≡ pool z before (pool_of z c)
    by_role = rw r refl

not_below : (m n : ℕ) → n < m → (m == n) ≡ false
not_below m n h = grind (arith, nat_tests)

not_above : (m n : ℕ) → m < n → (m == n) ≡ false
not_above m n h = grind (arith, nat_tests)

-- a context that was not opened yet has no topics, and nothing is kept for it
pub nothing : (z : Setting) (how : Keeping) (before : List Entry) (c : ℕ) → z.role ≡ role.Sub → AreAllowed z before → opened before < c → (pool_keeping z how before c ≡ []) × (topics before c ≡ [])
nothing z how [] c r a l = (refl, refl)
nothing z how (Unkept p ∷ before) c r a l = nothing z Nowhere before c r a.1 l
nothing z how (Dry d ∷ before) c r a l = nothing z (Below d) before c r a.1 l
nothing z how (Frame p b ∷ before) c r a l =
    let again = nothing z Everywhere before c r a.1 l in
    (step (keeps how c) (takes z before c p b) not_taken again.0, again.1)
  where
    closed : has (ctxs before) c ≡ false
    closed = go (has (ctxs before) c) refl
      where
        go : (b : Bool) → has (ctxs before) c ≡ b → b ≡ false
        go true e = let low = opened_low z before c a.1 e in absurd (omega (arith, low, l))
        go false e = refl

    not_taken : takes z before c p b ≡ false
    not_taken =
        by_role ∙ ap (λ b'. not (is_too_long before p b) && cond (not z.raw) (b' && is_wanted_by (topics before c) b) (c == 0)) closed
        ∙ ap (λ b'. not (is_too_long before p b) && cond (not z.raw) false b') (not_below c 0 (omega (arith, l))) ∙ neither (not (is_too_long before p b)) z.raw
      where
        by_role : takes z before c p b ≡ not (is_too_long before p b) && cond (not z.raw) (has (ctxs before) c && is_wanted_by (topics before c) b) (c == 0)
        by_role = rw r refl

        neither : (short b' : Bool) → (short && cond (not b') false false) ≡ false
        neither false b' = refl
        neither true true = refl
        neither true false = refl

    step : (k y : Bool) → y ≡ false → pool z before c ≡ [] → cond k (cond y (add_for z.role z (item_of z p b) (pool z before c)) (pool z before c)) (pool z before c) ≡ []
    step true y e q = ap (λ b'. cond b' (add_for z.role z (item_of z p b) (pool z before c)) (pool z before c)) e ∙ q
    step false y e q = q
nothing z how (End op (Won (Received m)) ∷ before) c r a l =
    let again = nothing z Everywhere before c r a.1 l in
    (either (pool z before c) again.0 (is_on_pool z c (pending before op)), again.1)
  where
    either : (is : List Item) → is ≡ [] → (b : Bool) → cond b (drop 1 is) is ≡ []
    either is e true = rw e refl
    either is e false = e
nothing z how (End op (Won Sent) ∷ before) c r a l = nothing z Everywhere before c r a.1 l
nothing z how (End op (Gone cause by) ∷ before) c r a l = nothing z Everywhere before c r a.1 l
nothing z how (Topic d t On ∷ before) c r a l =
    let again = nothing z Everywhere before c r a.1 l in
    let low = opened_low z before d a.1 a.0.1.itself.1 in
    (again.0, ap (λ b. cond b (topics before c ++ t ∷ []) (topics before c)) (not_above d c (omega (arith, low, l))) ∙ again.1)
nothing z how (Topic d t Off ∷ before) c r a l =
    let again = nothing z Everywhere before c r a.1 l in
    let low = opened_low z before d a.1 a.0.1.itself.1 in
    let other = not_above d c (omega (arith, low, l)) in
    (ap (λ b. cond b (filter (λ (i : Item). is_wanted_by (topics (Topic d t Off ∷ before) c) i.message.body) (pool z before c)) (pool z before c)) other ∙ again.0, ap (λ b. cond b (filter (λ u. not (same_bytes u t)) (topics before c)) (topics before c)) other ∙ again.1)
nothing z how (Down p why ∷ before) c r a l =
    let again = nothing z Everywhere before c r a.1 l in
    (by_role z.role (pool z before c) r ∙ again.0, again.1)
  where
    by_role : (ro : Role) (is : List Item) → ro ≡ role.Sub → cond (is_reply ro) (filter (λ (i : Item). not (is_from p i)) is) is ≡ is
    by_role ro is e = rw e refl
nothing z how (Ctx d Shut ∷ before) c r a l =
    let again = nothing z Everywhere before c r a.1 l in
    (same (pool z before c) again.0 (d == c), same (topics before c) again.1 (d == c))
  where
    same : {A : Type 0} (xs : List A) → xs ≡ [] → (b : Bool) → cond b [] xs ≡ []
    same xs e true = refl
    same xs e false = e
nothing z how (Ctx d Open ∷ before) c r a l = nothing z Everywhere before c r a.1 (omega (arith, l))
nothing z how (Close totals ∷ before) c r a l = (refl, (nothing z Everywhere before c r a.1 l).1)
nothing z how (_ ∷ before) c r a l = nothing z Everywhere before c r a.1 l
