-- What holds at every moment whose history is legal.
use Rattle.std.proofs.Common.{◌≡◌, refl, ap, sym, ◌∙◌, subst, List, [], ◌∷◌, ◌++◌, ℕ, ◌+◌, ◌<◌, ◌≤◌, Bool, true, false, cond, arith, Some}
use Rattle.std.specs.Prelude.{map, not, ◌&&◌, ◌||◌, ◌==◌, IsTrue}
use Rattle.std.specs.List.{list_any}
use Rattle.std.proofs.lemmas.Bool.Decides.{nat_tests}
use Rattle.sp_base.specs.declared.OpName.{OpName}
use Rattle.aio_word.specs.Views.{times, one_if, names}
use Rattle.turn_lock.specs.declared.turn.Turn.{Turn}
use Rattle.sp_history.specs.declared.entry.Entry.{Entry}
use Rattle.sp_history.specs.declared.entry.Entry.TheVariants.{Begin, End, Up, Down, Close}
use Rattle.sp_history.specs.declared.entry.Ending.{Ending}
use Rattle.sp_history.specs.declared.entry.Ending.TheVariants.{Won, Gone}
use Rattle.sp_history.specs.declared.setting.Setting.{Setting}
use Rattle.sp_history.specs.declared.parts.Begun.{Begun}
use Rattle.sp_history.specs.Lists.{same_op}
use Rattle.sp_history.specs.Past.{is_of, without_begun, pend, pending, begins, ends, up, is_closed, onto, past_from}
use Rattle.sp_history.specs.Once.{occurs, end_count}
use Rattle.sp_history.specs.Legal.{Allowed, MayCome, Follows, LegalFrom, is_at}
use Rattle.sp_history.proofs.OnceHolds.{Counted, counted_next, Closes, closes_next, same_op-eq, occurs-append, occurs-without, occurs-without_other, occurs-find}
use Rattle.sp_history.specs.Moments.{Moment, past, also, AllowedBack, Lawful, starts_back, may_start}
use Rattle.core_state.specs.Ends.{decided, end_of}

-- ---- Induction

module _ (z : Setting) (Q : List Entry → Type 0) (step : (k : ℕ) (before : List Entry) (e : Entry) → Q before → Allowed z k before e → Q (e ∷ before)) where
  along_turn : (k : ℕ) (before entries : List Entry) → Q before → Follows z k before entries → Q (onto entries before)
  along_turn k before [] q f = q
  along_turn k before (e ∷ entries) q f = along_turn k (e ∷ before) entries (step k before e q f.0) f.1

  along : (before : List Entry) (history : List (Turn Entry)) → Q before → LegalFrom z before history → Q (past_from before history)
  along before [] q l = q
  along before (t ∷ history) q l = along (onto t.entries before) history (along_turn t.number before t.entries q l.0.entries) l.1

  along_back : (k : ℕ) (before turn : List Entry) → Q before → AllowedBack z k before turn → Q (turn ++ before)
  along_back k before [] q b = q
  along_back k before (e ∷ turn) q b = step k (turn ++ before) e (along_back k before turn q b.1) b.0

pub by_steps : (t : Moment) (Q : List Entry → Type 0) → Q [] → ((k : ℕ) (before : List Entry) (e : Entry) → Q before → Allowed t.z k before e → Q (e ∷ before)) → Lawful t → Q (past t)
by_steps t Q none step l =
    along_back t.z Q step t.caller t.before t.turn (subst Q (sym l.before) (along t.z Q step [] l.history none l.legal)) l.turn

starts_more : (z : Setting) (turn : List Entry) (e : Entry) → starts_back z turn ≡ true → may_start z e ≡ true → starts_back z (e ∷ turn) ≡ true
starts_more z [] e h k = k
starts_more z (d ∷ turn) e h k = h

pub one_more : (t : Moment) (e : Entry) → Lawful t → Allowed t.z t.caller (past t) e → may_start t.z e ≡ true → Lawful (also t e)
one_more t e l a k = record { history = l.history; legal = l.legal; before = l.before; turn = (a, l.turn); starts = starts_more t.z t.turn e l.starts k }

-- ---- Counts

pub counted : (t : Moment) (op : OpName) → Lawful t → Counted (past t) op
counted t op l =
    by_steps t (λ before. Counted before op) (refl, omega arith, λ p. omega arith) (λ k before e h a. counted_next t.z k before e op h a.itself) l

pub closed_none : (t : Moment) → Lawful t → Closes (past t)
closed_none t l = by_steps t Closes (λ p. cc) (λ k before e h a. closes_next t.z k before e h a) l

-- a pending operation is the last of its slot
abbrev pub Current : Setting → OpName → List Entry → Type 0
Current z op before = 1 ≤ occurs (pend before) op → (op.generation ≡ begins before op.slot) × (op.slot < z.slots) × (0 < op.generation)

pub none_at : (ss : List Begun) (op : OpName) (slot : ℕ) → list_any (is_at slot) ss ≡ false → 1 ≤ occurs ss op → (slot == op.slot) ≡ false
none_at [] op slot h o = absurd (omega arith)
none_at (r ∷ ss) op slot h o = go (r.op.slot == slot) refl (is_of op r) refl h o (none_at ss op slot)
  where
    go : (a : Bool) → (r.op.slot == slot) ≡ a → (b : Bool) → is_of op r ≡ b → (a || list_any (is_at slot) ss) ≡ false → 1 ≤ cond b (occurs ss op + 1) (occurs ss op) → (list_any (is_at slot) ss ≡ false → 1 ≤ occurs ss op → (slot == op.slot) ≡ false) → (slot == op.slot) ≡ false
    go true e b f h o again = cc
    go false e true f h o again = let same : r.op ≡ op = same_op-eq r.op op f in let s : r.op.slot ≡ op.slot = ap (λ (x : OpName). x.slot) same in grind (arith, nat_tests)
    go false e false f h o again = again h o

begun_current : (z : Setting) (op other : OpName) (before : List Entry) → Current z op before → other.generation ≡ begins before other.slot + 1 → other.slot < z.slots → list_any (is_at other.slot) (pend before) ≡ false
    → (b : Bool) → same_op other op ≡ b → (n : ℕ) → n ≡ cond b (occurs (pend before) op + 1) (occurs (pend before) op) → 1 ≤ n
    → (op.generation ≡ cond (other.slot == op.slot) (begins before op.slot + 1) (begins before op.slot)) × (op.slot < z.slots) × (0 < op.generation)
begun_current z op other before h g s free true e n f o =
    let same : other ≡ op = same_op-eq other op e in
    let g' : op.generation ≡ begins before op.slot + 1 = subst (λ (x : OpName). x.generation ≡ begins before x.slot + 1) same g in
    let slot : other.slot ≡ op.slot = ap (λ (x : OpName). x.slot) same in
    (grind (arith, nat_tests, slot, g'), omega (arith, slot, s), omega (arith, g'))
begun_current z op other before h g s free false e n f o =
    let o' : 1 ≤ occurs (pend before) op = omega (arith, o, f) in
    let apart = none_at (pend before) op other.slot free o' in
    let k = h o' in
    (rw apart k.0, k.1, k.2)

ended_current : (ss : List Begun) (op other : OpName) → 1 ≤ occurs (without_begun ss other) op → 1 ≤ occurs ss op
ended_current ss op other h = go (same_op other op) refl
  where
    go : (b : Bool) → same_op other op ≡ b → 1 ≤ occurs ss op
    go true e =
        let same : other ≡ op = same_op-eq other op e in
        let gone : occurs (without_begun ss other) op ≡ 0 = subst (λ (o : OpName). occurs (without_begun ss other) o ≡ 0) same (occurs-without ss other) in
        absurd (omega (arith, gone, h))
    go false e = omega (arith, h, occurs-without_other ss other op e)

and_true : (a b : Bool) → IsTrue (not a && not b) → (a ≡ false) × (b ≡ false)
and_true true b h = absurd cc
and_true false true h = absurd cc
and_true false false h = (refl, refl)

current_next : (z : Setting) (op : OpName) (k : ℕ) (before : List Entry) (e : Entry) → Current z op before → MayCome z k before e → Current z op (e ∷ before)
current_next z op k before (Begin other caller c act d) h a =
    begun_current z op other before h a.generation a.slot_in_range (and_true _ _ a.slot_free).0 (same_op other op) refl _ (occurs-append (pend before) (record { op = other; ctx = c; act = act }) op)
current_next z op k before (End other ending) h a = λ o. h (ended_current (pend before) op other o)
current_next z op k before _ h a = h

pub current : (t : Moment) (op : OpName) (s : Begun) → Lawful t → pending (past t) op ≡ Some s → (op.generation ≡ begins (past t) op.slot) × (op.slot < t.z.slots) × (0 < op.generation)
current t op s l p =
    by_steps t (Current t.z op) (λ o. absurd (omega arith)) (λ k before e h a. current_next t.z op k before e h a.itself) l (occurs-find (pend (past t)) op s p)

-- ---- Ends

names_same : (other op : OpName) (ending : Ending) → names (end_of other ending) op.slot op.generation ≡ same_op other op
names_same other op (Won r) = refl
names_same other op (Gone cause by) = refl

times-append : (es : List (OpName × Ending)) (e : OpName × Ending) (op : OpName) → times op.slot op.generation (map decided (es ++ e ∷ [])) ≡ cond (same_op e.0 op) (times op.slot op.generation (map decided es) + 1) (times op.slot op.generation (map decided es))
times-append [] e op = rw (names_same e.0 op e.1) (go (same_op e.0 op))
  where
    go : (b : Bool) → one_if b + 0 ≡ cond b (0 + 1) 0
    go true = omega arith
    go false = omega arith
times-append (d ∷ es) e op = rw (times-append es e op) (go (same_op e.0 op) (one_if (names (decided d) op.slot op.generation)) (times op.slot op.generation (map decided es)))
  where
    go : (b : Bool) (x n : ℕ) → x + cond b (n + 1) n ≡ cond b ((x + n) + 1) (x + n)
    go true x n = omega arith
    go false x n = omega arith

pub ends_counted : (before : List Entry) (op : OpName) → times op.slot op.generation (map decided (ends before)) ≡ end_count before op
ends_counted [] op = refl
ends_counted (End other ending ∷ before) op = times-append (ends before) (other, ending) op ∙ ap (λ (n : ℕ). cond (same_op other op) (n + 1) n) (ends_counted before op)
ends_counted (_ ∷ before) op = ends_counted before op

pub unended : (t : Moment) (op : OpName) (s : Begun) → Lawful t → pending (past t) op ≡ Some s → times op.slot op.generation (map decided (ends (past t))) ≡ 0
unended t op s l p =
    let c = counted t op l in
    let o = occurs-find (pend (past t)) op s p in
    omega (arith, ends_counted (past t) op, c.0, c.1, o)

-- ---- The close

abbrev PipesClose : List Entry → Type 0
PipesClose before = is_closed before ≡ true → up before ≡ []

pipes_next : (z : Setting) (k : ℕ) (before : List Entry) (e : Entry) → PipesClose before → Allowed z k before e → PipesClose (e ∷ before)
pipes_next z k before (Up p place limit name) h a = λ q. let r : false ≡ true = a.after_close q in cc
pipes_next z k before (Down p why) h a = λ q. let r : false ≡ true = a.after_close q in cc
pipes_next z k before (Close totals) h a = λ q. a.itself.1
pipes_next z k before _ h a = h

pub pipes_closed : (t : Moment) → Lawful t → is_closed (past t) ≡ true → up (past t) ≡ []
pipes_closed t l = by_steps t PipesClose (λ p. cc) (λ k before e h a. pipes_next t.z k before e h a) l
