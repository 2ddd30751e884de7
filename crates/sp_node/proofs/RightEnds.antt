-- A receive never ends as sent, and a send never with a message.
use Rattle.std.proofs.Common.{◌≡◌, refl, ap, sym, ◌∙◌, subst, inl, inr, List, [], ◌∷◌, ◌++◌, ℕ, zero, suc, ◌+◌, ◌≤◌, ◌<◌, Bool, true, false, cond, arith, Option, Some, length, append_assoc}
use Rattle.std.specs.Prelude.{◌⊎◌, ⊤, Contains, slice_index_or, not, find}
use Rattle.turn_lock.specs.declared.turn.Turn.{Turn}
use Rattle.sp_base.specs.declared.OpName.{OpName}
use Rattle.sp_history.specs.declared.entry.Completion.{Completion}
use Rattle.sp_history.specs.declared.entry.Completion.TheVariants as won
use Rattle.sp_history.specs.declared.entry.Ending.{Ending}
use Rattle.sp_history.specs.declared.entry.Ending.TheVariants.{Won, Gone}
use Rattle.sp_history.specs.declared.entry.Entry.{Entry}
use Rattle.sp_history.specs.declared.entry.Entry.TheVariants.{Begin, End}
use Rattle.sp_history.specs.declared.entry.RecordedAct.{RecordedAct}
use Rattle.sp_history.specs.declared.entry.RecordedAct.TheVariants as acts
use Rattle.sp_history.specs.declared.parts.Begun.{Begun}
use Rattle.sp_history.specs.declared.setting.Setting.{Setting}
use Rattle.sp_history.specs.Claims.{IsRightEnd, AreRightEnds}
use Rattle.sp_history.specs.Found.{act_of}
use Rattle.sp_history.specs.Legal.{Legal, is_recv}
use Rattle.sp_history.specs.Lists.{same_op}
use Rattle.sp_history.specs.Once.{begin_count}
use Rattle.sp_history.specs.Past.{onto, past_of, pend, pending, is_of, without_begun}
use Rattle.sp_history.proofs.Appending.{onto-append, past_of-append}
use Rattle.sp_history.proofs.Claiming.{ends_are_right}
use Rattle.sp_history.proofs.OnceHolds.{ends_once, same_op-refl, same_op-eq}
use Rattle.core_state.specs.declared.outcome.Outcome.{Outcome}
use Rattle.core_state.specs.declared.outcome.Outcome.TheVariants as outcomes
use Rattle.core_state.specs.Ends.{outcome_of}
use Rattle.sp_core.specs.Standing.{HasBegin}
use Rattle.sp_socket.specs.Singles.{SingleView, TookOne}
use Rattle.sp_node.specs.Waits.{WaitsFor}
use Rattle.sp_node.proofs.Entries.{append_nil}

some_inj : {A : Type 0} (x y : A) → Some x ≡ Some y → x ≡ y
some_inj x y q = cc

-- ---- Begins

-- the operation was begun as this
abbrev IsBegunAs : List Entry → OpName → RecordedAct → Type 0
IsBegunAs [] op a = ⊥
IsBegunAs (Begin other k c act d ∷ past) op a = ((other ≡ op) × (act ≡ a)) ⊎ IsBegunAs past op a
IsBegunAs (_ ∷ past) op a = IsBegunAs past op a

begun_more : (e : Entry) (past : List Entry) (op : OpName) (a : RecordedAct) → IsBegunAs past op a → IsBegunAs (e ∷ past) op a
begun_more (Begin other k c act d) past op a b = inr b
begun_more _ past op a b = b

begun_onto : (es past : List Entry) (op : OpName) (a : RecordedAct) → IsBegunAs past op a → IsBegunAs (onto es past) op a
begun_onto [] past op a b = b
begun_onto (e ∷ es) past op a b = begun_onto es (e ∷ past) op a (begun_more e past op a b)

begun_later : (h turns : List (Turn Entry)) (op : OpName) (a : RecordedAct) → IsBegunAs (past_of h) op a → IsBegunAs (past_of (h ++ turns)) op a
begun_later h [] op a b = subst (λ (g : List (Turn Entry)). IsBegunAs (past_of g) op a) (sym (append_nil h)) b
begun_later h (t ∷ turns) op a b =
    subst (λ (g : List (Turn Entry)). IsBegunAs (past_of g) op a) (append_assoc h (t ∷ []) turns) (begun_later (h ++ t ∷ []) turns op a (subst (λ (p : List Entry). IsBegunAs p op a) (sym (past_of-append h t)) (begun_onto t.entries (past_of h) op a b)))

begun_turn : (h : List (Turn Entry)) (t : Turn Entry) (op : OpName) (k c : ℕ) (act : RecordedAct) (d : Option ℕ) → HasBegin op k c act d t → IsBegunAs (past_of (h ++ t ∷ [])) op act
begun_turn h t op k c act d b =
    let p = past_of h in
    let whole : past_of (h ++ t ∷ []) ≡ onto b.late (Begin op k c act d ∷ onto b.early p) = past_of-append h t ∙ ap (λ (es : List Entry). onto es p) b.entries ∙ onto-append b.early (Begin op k c act d ∷ b.late) p in
    subst (λ (q : List Entry). IsBegunAs q op act) (sym whole) (begun_onto b.late (Begin op k c act d ∷ onto b.early p) op act (inl (refl, refl)))

-- it counts as a begin, and where it is the only one it is what was begun
begun_once : (past : List Entry) (op : OpName) (a : RecordedAct) → IsBegunAs past op a → (1 ≤ begin_count past op) × (begin_count past op ≤ 1 → act_of past op ≡ Some a)
begun_once [] op a b = absurd b
begun_once (Begin other k c act d ∷ past) op a (inl (same, is)) =
    let yes_ : same_op other op ≡ true = subst (λ (o : OpName). same_op other o ≡ true) same (same_op-refl other) in
    rw yes_ (omega arith, λ few. ap (λ (x : RecordedAct). Some x) is)
begun_once (Begin other k c act d ∷ past) op a (inr b) = go (same_op other op) (begun_once past op a b)
  where
    go : (x : Bool) → (1 ≤ begin_count past op) × (begin_count past op ≤ 1 → act_of past op ≡ Some a)
        → (1 ≤ cond x (begin_count past op + 1) (begin_count past op)) × (cond x (begin_count past op + 1) (begin_count past op) ≤ 1 → cond x (Some act) (act_of past op) ≡ Some a)
    go true was = (omega arith, λ few. (let one = was.0 in absurd (omega (arith, few, one))))
    go false was = was
begun_once (_ ∷ past) op a b = begun_once past op a b

-- ---- What is pending was begun

-- the operation is among these
abbrev IsAmong : Begun → List Begun → Type 0
IsAmong s [] = ⊥
IsAmong s (x ∷ xs) = (x ≡ s) ⊎ IsAmong s xs

among_append : (xs : List Begun) (y s : Begun) → IsAmong s (xs ++ y ∷ []) → (y ≡ s) ⊎ IsAmong s xs
among_append [] y s (inl is) = inl is
among_append [] y s (inr b) = absurd b
among_append (x ∷ xs) y s (inl is) = inr (inl is)
among_append (x ∷ xs) y s (inr b) = go (among_append xs y s b)
  where
    go : (y ≡ s) ⊎ IsAmong s xs → (y ≡ s) ⊎ IsAmong s (x ∷ xs)
    go (inl is) = inl is
    go (inr in_) = inr (inr in_)

among_without : (xs : List Begun) (op : OpName) (s : Begun) → IsAmong s (without_begun xs op) → IsAmong s xs
among_without [] op s b = b
among_without (x ∷ xs) op s b = go (is_of op x) b (among_without xs op s)
  where
    go : (y : Bool) → IsAmong s (cond (not y) (x ∷ without_begun xs op) (without_begun xs op)) → (IsAmong s (without_begun xs op) → IsAmong s xs) → IsAmong s (x ∷ xs)
    go true b again = inr (again b)
    go false (inl is) again = inl is
    go false (inr b) again = inr (again b)

among_found : (xs : List Begun) (op : OpName) (s : Begun) → find (is_of op) xs ≡ Some s → IsAmong s xs × (is_of op s ≡ true)
among_found [] op s h = cc
among_found (x ∷ xs) op s h = go (is_of op x) refl h (among_found xs op s)
  where
    go : (y : Bool) → is_of op x ≡ y → cond y (Some x) (find (is_of op) xs) ≡ Some s → (find (is_of op) xs ≡ Some s → IsAmong s xs × (is_of op s ≡ true)) → IsAmong s (x ∷ xs) × (is_of op s ≡ true)
    go true e h again = let is : x ≡ s = some_inj x s h in (inl is, subst (λ (z : Begun). is_of op z ≡ true) is e)
    go false e h again = let more = again h in (inr more.0, more.1)

pend_begun : (past : List Entry) (s : Begun) → IsAmong s (pend past) → IsBegunAs past s.op s.act
pend_begun [] s b = b
pend_begun (Begin op k c act d ∷ past) s b = go (pend_begun past s) (among_append (pend past) (record { op = op; ctx = c; act = act }) s b)
  where
    go : (IsAmong s (pend past) → IsBegunAs past s.op s.act) → (record { op = op; ctx = c; act = act } ≡ s) ⊎ IsAmong s (pend past) → IsBegunAs (Begin op k c act d ∷ past) s.op s.act
    go before (inl is) = inl (ap (λ (z : Begun). z.op) is, ap (λ (z : Begun). z.act) is)
    go before (inr in_) = inr (before in_)
pend_begun (End op ending ∷ past) s b = pend_begun past s (among_without (pend past) op s b)
pend_begun (_ ∷ past) s b = pend_begun past s b

pending_begun : (past : List Entry) (op : OpName) (s : Begun) → pending past op ≡ Some s → IsBegunAs past op s.act
pending_begun past op s h =
    let found = among_found (pend past) op s h in
    subst (λ (o : OpName). IsBegunAs past o s.act) (same_op-eq s.op op found.1) (pend_begun past s found.0)

-- ---- What has ended was begun as what it ended as

-- an end that is won belongs to an act whose `is_recv` is this
abbrev receives : Completion → Bool
receives (won.Received m) = true
receives won.Sent = false

right_one : (r : Completion) (op : OpName) (past : List Entry) → IsRightEnd (End op (Won r)) past → (a : RecordedAct) × IsBegunAs past op a × (is_recv a ≡ receives r)
right_one (won.Received m) op past (s, is, right) = (s.act, pending_begun past op s is, right)
right_one won.Sent op past (s, is, right) = (s.act, pending_begun past op s is, right)

right_at : (past : List Entry) (op : OpName) (r : Completion) (k : ℕ) → AreRightEnds past → k < length past → slice_index_or past k (End op (Won r)) ≡ End op (Won r) → (a : RecordedAct) × IsBegunAs past op a × (is_recv a ≡ receives r)
right_at [] op r k right l h = absurd (omega (arith, l))
right_at (e ∷ past) op r zero right l h =
    let one = right_one r op past (subst (λ (x : Entry). IsRightEnd x past) h right.0) in
    (one.0, begun_more e past op one.0 one.1, one.2)
right_at (e ∷ past) op r (suc k) right l h =
    let one = right_at past op r k right.1 (omega (arith, l)) h in
    (one.0, begun_more e past op one.0 one.1, one.2)

-- what was begun as this act ends as an operation of its kind does
abbrev pub Fits : RecordedAct → Outcome → Type 0
Fits acts.Recv outcomes.Sent = ⊥
Fits (acts.Send m) (outcomes.Received back) = ⊥
Fits _ _ = ⊤

fits_won : (act : RecordedAct) (s : Begun) (r : Completion) → is_recv act ≡ receives r → Fits act (outcome_of s (Won r))
fits_won acts.Recv s (won.Received m) h = tt
fits_won acts.Recv s won.Sent h = cc
fits_won (acts.Send m) s (won.Received back) h = cc
fits_won (acts.Send m) s won.Sent h = tt

fits_gone : (act : RecordedAct) (s : Begun) (cause : _) (by : ℕ) → Fits act (outcome_of s (Gone cause by))
fits_gone acts.Recv s cause by = tt
fits_gone (acts.Send m) s cause by = tt

fits_end : (z : Setting) (h : List (Turn Entry)) (op : OpName) (act : RecordedAct) (s : Begun) (ending : Ending) → Legal z h → IsBegunAs (past_of h) op act → Contains (past_of h) (End op ending) → Fits act (outcome_of s ending)
fits_end z h op act s (Gone cause by) legal begun ended = fits_gone act s cause by
fits_end z h op act s (Won r) legal begun ended =
    let past = past_of h in
    let once = (ends_once z h op legal).begun in
    let right = right_at past op r ended.0 (ends_are_right z h legal) ended.1 ended.2 in
    let same : act ≡ right.0 = some_inj act right.0 (sym ((begun_once past op act begun).1 once) ∙ (begun_once past op right.0 right.1).1 once) in
    fits_won act s r (ap is_recv same ∙ right.2)

-- an operation that was begun in a turn, and waited for since
pub ends_rightly : {says : Setting → List (Turn Entry) → Turn Entry → Type 0} (s0 s1 s2 : SingleView) (began : TookOne says s0 s1) (op : OpName) (c : ℕ) (act : RecordedAct) (d : Option ℕ) (outcome : Outcome) → HasBegin op 1 c act d began.turn → WaitsFor outcome op s1 s2 → Fits act outcome
ends_rightly s0 s1 s2 began op c act d outcome begin waits =
    let last = waits.last in
    let took = waits.collects in
    let collected = took.said.1 in
    let ended = collected.2 in
    let first : IsBegunAs (past_of s1.seen) op act = subst (λ (g : List (Turn Entry)). IsBegunAs (past_of g) op act) (sym began.seen) (begun_turn s0.seen began.turn op 1 c act d begin) in
    let then_ : IsBegunAs (past_of last.seen) op act = subst (λ (g : List (Turn Entry)). IsBegunAs (past_of g) op act) (sym waits.later.seen) (begun_later s1.seen waits.later.turns op act first) in
    let now_ : IsBegunAs (past_of (last.seen ++ took.turn ∷ [])) op act = begun_later last.seen (took.turn ∷ []) op act then_ in
    let legal : Legal s2.setting (last.seen ++ took.turn ∷ []) = subst (λ (g : List (Turn Entry)). Legal s2.setting g) took.seen took.legal in
    subst (λ (o : Outcome). Fits act o) (sym collected.3) (fits_end s2.setting (last.seen ++ took.turn ∷ []) op act collected.0 collected.1 legal now_ ended.ended)
