-- Operations that are open: what the turns of one caller say about them, and what leaves them open.
use Rattle.std.proofs.Common.{◌≡◌, ◌≢◌, refl, ap, sym, ◌∙◌, subst, List, [], ◌∷◌, ◌++◌, ℕ, ◌+◌, ◌<◌, ◌≤◌, Bool, true, false, cond, arith}
use Rattle.std.specs.Prelude.{Option, Some, None, not, ◌&&◌, ◌==◌, ◌↔◌}
use Rattle.std.proofs.lemmas.Bool.Decides.{nat_tests}
use Rattle.sp_base.specs.declared.OpName.{OpName}
use Rattle.turn_lock.specs.declared.turn.Turn.{Turn}
use Rattle.turn_lock.specs.History.{turns_of}
use Rattle.sp_history.specs.declared.entry.Entry.{Entry}
use Rattle.sp_history.specs.declared.entry.Entry.TheVariants.{Begin, Took}
use Rattle.sp_history.specs.declared.setting.Setting.{Setting}
use Rattle.sp_history.specs.Lists.{same_op}
use Rattle.sp_history.specs.Past.{caller_of, begins, onto, past_from, past_of}
use Rattle.sp_history.specs.Once.{begin_count, took_count}
use Rattle.sp_history.specs.Changes.{none_of}
use Rattle.sp_history.specs.Found.{collects, IsOpenOf}
use Rattle.sp_history.specs.declared.entry.RecordedAct.{RecordedAct}
use Rattle.sp_history.specs.Legal.{Allowed, MayCome, Follows, LegalTurn, LegalFrom, Legal}
use Rattle.sp_history.proofs.OnceHolds.{Counted, counted_next, same_op-refl, same_op-eq}

-- an operation without a begin has no caller
no_caller : (p : List Entry) (op : OpName) → begin_count p op ≡ 0 → caller_of p op ≡ None
no_caller [] op h = refl
no_caller (Begin other k c act d ∷ p) op h = go (same_op other op) h (no_caller p op)
  where
    go : (b : Bool) → cond b (begin_count p op + 1) (begin_count p op) ≡ 0 → (begin_count p op ≡ 0 → caller_of p op ≡ None) → cond b (Some k) (caller_of p op) ≡ None
    go true h again = absurd (omega arith)
    go false h again = again h
no_caller (_ ∷ p) op h = no_caller p op h

-- what the whole history says about an operation, and what only the turns of one caller say
record Own (k : ℕ) (op : OpName) (p q : List Entry) : Type 0 where
  counted : Counted p op
  untaken : caller_of p op ≡ None → took_count p op ≡ 0
  begun : caller_of q op ≡ Some k → caller_of p op ≡ Some k
  its_own : caller_of p op ≡ Some k → caller_of q op ≡ Some k
  taken : caller_of p op ≡ Some k → took_count p op ≡ took_count q op
  few : took_count q op ≤ took_count p op

-- a begin that may come is the first of its operation
fresh : (p : List Entry) (op other : OpName) → Counted p op → other.generation ≡ begins p other.slot + 1 → same_op other op ≡ true → caller_of p op ≡ None
fresh p op other h g e = no_caller p op (none (begin_count p op) op.generation (begins p op.slot) h.2 (subst (λ (o : OpName). o.generation ≡ begins p o.slot + 1) (same_op-eq other op e) g))
  where
    none : (n g b : ℕ) → (0 < n → g ≤ b) → g ≡ b + 1 → n ≡ 0
    none n g b h e = grind arith

own_begin : (z : Setting) (k : ℕ) (p q : List Entry) (op other : OpName) (caller c : ℕ) (o : Own k op p q) → other.generation ≡ begins p other.slot + 1 → (b : Bool) → same_op other op ≡ b
    → (cond b (Some caller) (caller_of p op) ≡ None → took_count p op ≡ 0) × (cond b (Some caller) (caller_of q op) ≡ Some k → cond b (Some caller) (caller_of p op) ≡ Some k) × (cond b (Some caller) (caller_of p op) ≡ Some k → took_count p op ≡ took_count q op) × (cond b (Some caller) (caller_of p op) ≡ Some k → cond b (Some caller) (caller_of q op) ≡ Some k)
own_begin z k p q op other caller c o g true e =
    let zero : took_count p op ≡ 0 = o.untaken (fresh p op other o.counted g e) in
    ((λ h. zero), (λ h. h), (λ h. omega (arith, zero, o.few)), λ h. h)
own_begin z k p q op other caller c o g false e = (o.untaken, o.begun, o.taken, o.its_own)

no_none : {A : Type 0} (x : A) → Some x ≡ None → ⊥
no_none x h = cc

own_took : (k n : ℕ) (p q : List Entry) (op other : OpName) (o : Own k op p q) → caller_of p other ≡ Some n → (b : Bool) → same_op other op ≡ b
    → (caller_of p op ≡ None → cond b (took_count p op + 1) (took_count p op) ≡ 0) × (caller_of p op ≡ Some k → cond b (took_count p op + 1) (took_count p op) ≡ cond b (took_count q op + 1) (took_count q op)) × (cond b (took_count q op + 1) (took_count q op) ≤ cond b (took_count p op + 1) (took_count p op))
own_took k n p q op other o by true e =
    let by' : caller_of p op ≡ Some n = subst (λ (x : OpName). caller_of p x ≡ Some n) (same_op-eq other op e) by in
    ((λ h. absurd (no_none n (sym by' ∙ h))), (λ h. ap (λ (m : ℕ). m + 1) (o.taken h)), omega (arith, o.few))
own_took k n p q op other o by false e = (o.untaken, o.taken, o.few)

own_next : (z : Setting) (k : ℕ) (p q : List Entry) (e : Entry) (op : OpName) → Own k op p q → MayCome z k p e → Own k op (e ∷ p) (e ∷ q)
own_next z k p q (Begin other caller c act d) op o a =
    let b = own_begin z k p q op other caller c o a.generation (same_op other op) refl in
    record { counted = counted_next z k p (Begin other caller c act d) op o.counted a; untaken = b.0; begun = b.1; its_own = b.3; taken = b.2; few = o.few }
own_next z k p q (Took other caller) op o a =
    let b = own_took k k p q op other o a.1 (same_op other op) refl in
    record { counted = counted_next z k p (Took other caller) op o.counted a; untaken = b.0; begun = o.begun; its_own = o.its_own; taken = b.1; few = b.2 }
own_next z k p q e op o a = record { counted = counted_next z k p e op o.counted a; untaken = o.untaken; begun = o.begun; its_own = o.its_own; taken = o.taken; few = o.few }

same_some : (a b : ℕ) → Some a ≡ Some b → a ≡ b
same_some a b h = cc

other_begin : (k n : ℕ) (p q : List Entry) (op other : OpName) (o : Own k op p q) → n ≢ k → other.generation ≡ begins p other.slot + 1 → (b : Bool) → same_op other op ≡ b
    → (cond b (Some n) (caller_of p op) ≡ None → took_count p op ≡ 0) × (caller_of q op ≡ Some k → cond b (Some n) (caller_of p op) ≡ Some k) × (cond b (Some n) (caller_of p op) ≡ Some k → took_count p op ≡ took_count q op) × (cond b (Some n) (caller_of p op) ≡ Some k → caller_of q op ≡ Some k)
other_begin k n p q op other o apart g true e =
    let none : caller_of p op ≡ None = fresh p op other o.counted g e in
    ((λ h. o.untaken none), (λ h. absurd (no_none k (sym (o.begun h) ∙ none))), (λ h. absurd (apart (same_some n k h))), λ h. absurd (apart (same_some n k h)))
other_begin k n p q op other o apart g false e = (o.untaken, o.begun, o.taken, o.its_own)

other_took : (k n : ℕ) (p q : List Entry) (op other : OpName) (o : Own k op p q) → n ≢ k → caller_of p other ≡ Some n → (b : Bool) → same_op other op ≡ b
    → (caller_of p op ≡ None → cond b (took_count p op + 1) (took_count p op) ≡ 0) × (caller_of p op ≡ Some k → cond b (took_count p op + 1) (took_count p op) ≡ took_count q op) × (took_count q op ≤ cond b (took_count p op + 1) (took_count p op))
other_took k n p q op other o apart by true e =
    let by' : caller_of p op ≡ Some n = subst (λ (x : OpName). caller_of p x ≡ Some n) (same_op-eq other op e) by in
    ((λ h. absurd (no_none n (sym by' ∙ h))), (λ h. absurd (apart (same_some n k (sym by' ∙ h)))), omega (arith, o.few))
other_took k n p q op other o apart by false e = (o.untaken, o.taken, o.few)

other_next : (z : Setting) (k n : ℕ) (p q : List Entry) (e : Entry) (op : OpName) → n ≢ k → Own k op p q → MayCome z n p e → Own k op (e ∷ p) q
other_next z k n p q (Begin other caller c act d) op apart o a =
    let b = other_begin k caller p q op other o (λ h. apart (sym a.caller_of_turn ∙ h)) a.generation (same_op other op) refl in
    record { counted = counted_next z n p (Begin other caller c act d) op o.counted a; untaken = b.0; begun = b.1; its_own = b.3; taken = b.2; few = o.few }
other_next z k n p q (Took other caller) op apart o a =
    let b = other_took k n p q op other o apart a.1 (same_op other op) refl in
    record { counted = counted_next z n p (Took other caller) op o.counted a; untaken = b.0; begun = o.begun; its_own = o.its_own; taken = b.1; few = b.2 }
other_next z k n p q e op apart o a = record { counted = counted_next z n p e op o.counted a; untaken = o.untaken; begun = o.begun; its_own = o.its_own; taken = o.taken; few = o.few }

own_turn : (z : Setting) (k : ℕ) (p q es : List Entry) (op : OpName) → Own k op p q → Follows z k p es → Own k op (onto es p) (onto es q)
own_turn z k p q [] op o f = o
own_turn z k p q (e ∷ es) op o f = own_turn z k (e ∷ p) (e ∷ q) es op (own_next z k p q e op o f.0.itself) f.1

other_turn : (z : Setting) (k n : ℕ) (p q es : List Entry) (op : OpName) → n ≢ k → Own k op p q → Follows z n p es → Own k op (onto es p) q
other_turn z k n p q [] op apart o f = o
other_turn z k n p q (e ∷ es) op apart o f = other_turn z k n (e ∷ p) q es op apart (other_next z k n p q e op apart o f.0.itself) f.1

own_all : (z : Setting) (k : ℕ) (p q : List Entry) (h : List (Turn Entry)) (op : OpName) → Own k op p q → LegalFrom z p h → Own k op (past_from p h) (past_from q (turns_of k h))
own_all z k p q [] op o l = o
own_all z k p q (t ∷ h) op o l =
    go (t.number == k) refl (λ x. own_all z k (onto t.entries p) (onto t.entries q) h op x l.1) (λ x. own_all z k (onto t.entries p) q h op x l.1)
  where
    go : (b : Bool) → (t.number == k) ≡ b
        → (Own k op (onto t.entries p) (onto t.entries q) → Own k op (past_from (onto t.entries p) h) (past_from (onto t.entries q) (turns_of k h)))
        → (Own k op (onto t.entries p) q → Own k op (past_from (onto t.entries p) h) (past_from q (turns_of k h)))
        → Own k op (past_from (onto t.entries p) h) (past_from q (cond b (t ∷ turns_of k h) (turns_of k h)))
    go true e mine others =
        let same : t.number ≡ k = grind (arith, nat_tests) in
        mine (own_turn z k p q t.entries op o (subst (λ (n : ℕ). Follows z n p t.entries) same l.0.entries))
    go false e mine others =
        let apart : t.number ≢ k = λ s. grind (arith, nat_tests, s) in
        others (other_turn z k t.number p q t.entries op apart o l.0.entries)

at_first : (k : ℕ) (op : OpName) → Own k op [] []
at_first k op = record { counted = (refl, omega arith, λ p. omega arith); untaken = λ e. refl; begun = λ e. e; its_own = λ e. e; taken = λ e. refl; few = omega arith }

own_history : (z : Setting) (k : ℕ) (h : List (Turn Entry)) (op : OpName) → Legal z h → Own k op (past_of h) (past_of (turns_of k h))
own_history z k h op l = own_all z k [] [] h op (at_first k op) l

-- an operation is open in the caller's turns exactly where it is open in the whole
pub open_in_both : (z : Setting) (k : ℕ) (h : List (Turn Entry)) (op : OpName) → Legal z h → IsOpenOf k op (past_of (turns_of k h)) ↔ IsOpenOf k op (past_of h)
open_in_both z k h op l =
    let o = own_history z k h op l in
    ((λ s. let b = o.begun s.0 in (b, o.taken b ∙ s.1)), λ s. (o.its_own s.0, sym (o.taken s.0) ∙ s.1))

-- ---- One more turn

last_turn : (z : Setting) (p : List Entry) (h : List (Turn Entry)) (t : Turn Entry) → LegalFrom z p (h ++ t ∷ []) → LegalFrom z p h × LegalTurn z (past_from p h) t
last_turn z p [] t l = (tt, l.0)
last_turn z p (u ∷ h) t l = let k = last_turn z (onto u.entries p) h t l.1 in ((l.0, k.0), k.1)

past_last : (p : List Entry) (h : List (Turn Entry)) (t : Turn Entry) → past_from p (h ++ t ∷ []) ≡ onto t.entries (past_from p h)
past_last p [] t = refl
past_last p (u ∷ h) t = past_last (onto u.entries p) h t

not_none : (p : List Entry) (op : OpName) (k : ℕ) → caller_of p op ≡ Some k → caller_of p op ≡ None → ⊥
not_none p op k h e = no_none k (sym h ∙ e)

open_next : (z : Setting) (k n : ℕ) (p : List Entry) (e : Entry) (op : OpName) → Counted p op → IsOpenOf k op p → collects op e ≡ false → MayCome z n p e → IsOpenOf k op (e ∷ p)
open_next z k n p (Begin other caller c act d) op counted o un a = go (same_op other op) refl
  where
    go : (b : Bool) → same_op other op ≡ b → (cond b (Some caller) (caller_of p op) ≡ Some k) × (took_count p op ≡ 0)
    go true e = absurd (not_none p op k o.0 (fresh p op other counted a.generation e))
    go false e = o
open_next z k n p (Took other caller) op counted o un a = rw un o
open_next z k n p e op counted o un a = o

open_turn : (z : Setting) (k n : ℕ) (p es : List Entry) (op : OpName) → Counted p op → IsOpenOf k op p → none_of (collects op) es ≡ true → Follows z n p es → IsOpenOf k op (onto es p)
open_turn z k n p [] op counted o un f = o
open_turn z k n p (e ∷ es) op counted o un f =
    open_turn z k n (e ∷ p) es op (counted_next z n p e op counted f.0.itself) (open_next z k n p e op counted o (first (collects op e) un) f.0.itself) (rest (collects op e) un) f.1
  where
    first : (b : Bool) → (not b && none_of (collects op) es) ≡ true → b ≡ false
    first true h = cc
    first false h = refl

    rest : (b : Bool) → (not b && none_of (collects op) es) ≡ true → none_of (collects op) es ≡ true
    rest true h = cc
    rest false h = h

pub open_after : (z : Setting) (h : List (Turn Entry)) (t : Turn Entry) (k : ℕ) (op : OpName) → Legal z (h ++ t ∷ []) → IsOpenOf k op (past_of h) → none_of (collects op) t.entries ≡ true → IsOpenOf k op (past_of (h ++ t ∷ []))
open_after z h t k op l o un =
    let both = last_turn z [] h t l in
    subst (IsOpenOf k op) (sym (past_last [] h t)) (open_turn z k t.number (past_of h) t.entries op (own_history z k h op both.0).counted o un both.1.entries)

-- a turn up to an entry, the entry, and the rest
follows_cut : (z : Setting) (n : ℕ) (p early : List Entry) (e : Entry) (late : List Entry) → Follows z n p (early ++ e ∷ late) → Follows z n p early × Allowed z n (onto early p) e × Follows z n (e ∷ onto early p) late
follows_cut z n p [] e late f = (tt, f.0, f.1)
follows_cut z n p (d ∷ early) e late f = let k = follows_cut z n (d ∷ p) early e late f.1 in ((f.0, k.0), k.1, k.2)

onto_cut : (p early late : List Entry) → onto (early ++ late) p ≡ onto late (onto early p)
onto_cut p [] late = refl
onto_cut p (d ∷ early) late = onto_cut (d ∷ p) early late

begun_here : (z : Setting) (n : ℕ) (p q : List Entry) (op : OpName) (k c : ℕ) (act : RecordedAct) (d : Option ℕ) → Own n op p q → MayCome z n p (Begin op k c act d) → IsOpenOf k op (Begin op k c act d ∷ p)
begun_here z n p q op k c act d o a =
    (rw (same_op-refl op) refl, o.untaken (fresh p op op o.counted a.generation (same_op-refl op)))

pub open_begun : (z : Setting) (h : List (Turn Entry)) (t : Turn Entry) (early late : List Entry) (op : OpName) (k c : ℕ) (act : RecordedAct) (d : Option ℕ)
    → Legal z (h ++ t ∷ []) → t.entries ≡ early ++ Begin op k c act d ∷ late → none_of (collects op) late ≡ true → IsOpenOf k op (past_of (h ++ t ∷ []))
open_begun z h t early late op k c act d l is un =
    let both = last_turn z [] h t l in
    let cut = follows_cut z t.number (past_of h) early (Begin op k c act d) late (subst (Follows z t.number (past_of h)) is both.1.entries) in
    let o = own_turn z t.number (past_of h) (past_of (turns_of t.number h)) early op (own_history z t.number h op both.0) cut.0 in
    let begun = begun_here z t.number (onto early (past_of h)) (onto early (past_of (turns_of t.number h))) op k c act d o cut.1.itself in
    let counted = counted_next z t.number (onto early (past_of h)) (Begin op k c act d) op o.counted cut.1.itself in
    let here = open_turn z k t.number (Begin op k c act d ∷ onto early (past_of h)) late op counted begun un cut.2 in
    let whole : past_of (h ++ t ∷ []) ≡ onto late (Begin op k c act d ∷ onto early (past_of h)) = past_last [] h t ∙ (ap (λ (es : List Entry). onto es (past_of h)) is ∙ onto_cut (past_of h) early (Begin op k c act d ∷ late)) in
    subst (IsOpenOf k op) (sym whole) here
