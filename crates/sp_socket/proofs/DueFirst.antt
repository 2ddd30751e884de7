-- What timed out was due before: a due list names only pending operations.
use Rattle.std.proofs.Common.{◌≡◌, refl, ap, sym, ◌∙◌, subst, List, [], ◌∷◌, ◌++◌, ℕ, ◌+◌, ◌≤◌, Bool, true, false, cond, arith, inl, inr}
use Rattle.std.specs.Prelude.{◌⊎◌, Option, Some, None, filter, map, not}
use Rattle.turn_lock.specs.declared.turn.Turn.{Turn}
use Rattle.sp_base.specs.declared.OpName.{OpName}
use Rattle.aio_word.specs.Views.{Stands}
use Rattle.sp_history.specs.declared.entry.Cause.TheVariants as causes
use Rattle.sp_history.specs.declared.entry.Ending.{Ending}
use Rattle.sp_history.specs.declared.entry.Ending.TheVariants.{Gone}
use Rattle.sp_history.specs.declared.entry.Entry.{Entry}
use Rattle.sp_history.specs.declared.entry.Entry.TheVariants.{Begin, End, Tick}
use Rattle.sp_history.specs.declared.parts.Begun.{Begun}
use Rattle.sp_history.specs.declared.parts.Timer.{Timer}
use Rattle.sp_history.specs.declared.setting.Setting.{Setting}
use Rattle.sp_history.specs.Lists.{same_op}
use Rattle.sp_history.specs.Past.{is_of, pend, ends, timer_of, is_due, timers, is_earlier, put_in_order, by_deadline, due_at, onto, past_from, past_of}
use Rattle.sp_history.specs.Once.{occurs, end_count}
use Rattle.sp_history.specs.Legal.{Allowed, AreAllowed, Legal}
use Rattle.sp_history.proofs.Backing.{legal_allowed}
use Rattle.sp_history.proofs.OnceHolds.{Counted, counted_next, same_op-refl, same_op-eq, occurs-append, occurs-without_other}
use Rattle.sp_socket.specs.Due.{IsDueIn, IsDueBefore, AllWereDue}
use Rattle.sp_socket.proofs.Dues.{stands_last}
use Rattle.sp_socket.proofs.EndsByCaller.{stands_end}

-- ---- Lists

module _ {A : Type 0} where
  stands_filtered : (f : A → Bool) (x : A) (xs : List A) → Stands x (filter f xs) → Stands x xs × (f x ≡ true)
  stands_filtered f x [] s = absurd s
  stands_filtered f x (y ∷ xs) s = go (f y) refl (stands_filtered f x xs) s
    where
      go : (b : Bool) → f y ≡ b → (Stands x (filter f xs) → Stands x xs × (f x ≡ true)) → Stands x (cond b (y ∷ filter f xs) (filter f xs)) → Stands x (y ∷ xs) × (f x ≡ true)
      go true e again (inl is) = (inl is, subst (λ (z : A). f z ≡ true) is e)
      go true e again (inr t) = let r = again t in (inr r.0, r.1)
      go false e again t = let r = again t in (inr r.0, r.1)

  stands_mapped : {B : Type 0} (f : A → B) (y : B) (xs : List A) → Stands y (map f xs) → (x : A) × Stands x xs × (f x ≡ y)
  stands_mapped f y [] s = absurd s
  stands_mapped f y (x ∷ xs) (inl e) = (x, inl refl, e)
  stands_mapped f y (x ∷ xs) (inr s) = let r = stands_mapped f y xs s in (r.0, inr r.1, r.2)

-- ---- A due list names pending operations

stands_put : (d e : Timer) (xs : List Timer) → Stands d (put_in_order e xs) → (e ≡ d) ⊎ Stands d xs
stands_put d e [] (inl is) = inl is
stands_put d e [] (inr s) = absurd s
stands_put d e (x ∷ xs) s = go (is_earlier e x) s (stands_put d e xs)
  where
    go : (b : Bool) → Stands d (cond b (e ∷ x ∷ xs) (x ∷ put_in_order e xs)) → (Stands d (put_in_order e xs) → (e ≡ d) ⊎ Stands d xs) → (e ≡ d) ⊎ ((x ≡ d) ⊎ Stands d xs)
    go true (inl is) again = inl is
    go true (inr t) again = inr t
    go false (inl is) again = inr (inl is)
    go false (inr t) again = then (again t)
      where
        then : (e ≡ d) ⊎ Stands d xs → (e ≡ d) ⊎ ((x ≡ d) ⊎ Stands d xs)
        then (inl is) = inl is
        then (inr u) = inr (inr u)

stands_ordered : (d : Timer) (xs : List Timer) → Stands d (by_deadline xs) → Stands d xs
stands_ordered d [] s = s
stands_ordered d (x ∷ xs) s = go (stands_ordered d xs) (stands_put d x (by_deadline xs) s)
  where
    go : (Stands d (by_deadline xs) → Stands d xs) → (x ≡ d) ⊎ Stands d (by_deadline xs) → (x ≡ d) ⊎ Stands d xs
    go again (inl is) = inl is
    go again (inr t) = inr (again t)

-- it is pending
abbrev IsPending : List Entry → OpName → Type 0
IsPending past op = 1 ≤ occurs (pend past) op

begun_pending : (past : List Entry) (s : Begun) (op : OpName) → IsPending past op → 1 ≤ occurs (pend past ++ s ∷ []) op
begun_pending past s op h = subst (λ (n : ℕ). 1 ≤ n) (sym (occurs-append (pend past) s op)) (go (is_of op s))
  where
    go : (b : Bool) → 1 ≤ cond b (occurs (pend past) op + 1) (occurs (pend past) op)
    go true = omega arith
    go false = h

new_pending : (past : List Entry) (s : Begun) → 1 ≤ occurs (pend past ++ s ∷ []) s.op
new_pending past s =
    subst (λ (n : ℕ). 1 ≤ n) (sym (occurs-append (pend past) s s.op)) (subst (λ (b : Bool). 1 ≤ cond b (occurs (pend past) s.op + 1) (occurs (pend past) s.op)) (sym (same_op-refl s.op)) (omega arith))

-- the new operation's deadline, or an earlier one
begun_timer : (past : List Entry) (op : OpName) (s : Begun) (deadline : Option ℕ) (d : Timer) → s.op ≡ op → ((e : Timer) → Stands e (timers past) → IsPending past e.op) → Stands d (timers past ++ timer_of op deadline) → 1 ≤ occurs (pend past ++ s ∷ []) d.op
begun_timer past op s None d is before t = begun_pending past s d.op (before d (none_more (timers past) t))
  where
    none_more : (xs : List Timer) → Stands d (xs ++ []) → Stands d xs
    none_more [] u = u
    none_more (x ∷ xs) (inl e) = inl e
    none_more (x ∷ xs) (inr u) = inr (none_more xs u)
begun_timer past op s (Some due) d is before t = go (stands_end d (record { due = due; op = op }) (timers past) t)
  where
    go : Stands d (timers past) ⊎ (record { due = due; op = op } ≡ d) → 1 ≤ occurs (pend past ++ s ∷ []) d.op
    go (inl u) = begun_pending past s d.op (before d u)
    go (inr e) = subst (λ (o : OpName). 1 ≤ occurs (pend past ++ s ∷ []) o) (is ∙ ap (λ (x : Timer). x.op) e) (new_pending past s)

not_true : (b : Bool) → not b ≡ true → b ≡ false
not_true true h = cc
not_true false h = refl

apart : (a b : OpName) (x : Bool) → same_op b a ≡ x → same_op a b ≡ false → x ≡ false
apart a b true e n =
    let same : same_op a b ≡ true = subst (λ (o : OpName). same_op o b ≡ true) (same_op-eq b a e) (same_op-refl b) in cc
apart a b false e n = refl

timed_pending : (past : List Entry) (d : Timer) → Stands d (timers past) → IsPending past d.op
timed_pending [] d s = absurd s
timed_pending (Begin op k c act deadline ∷ past) d s = begun_timer past op (record { op = op; ctx = c; act = act }) deadline d refl (timed_pending past) s
timed_pending (End op ending ∷ past) d s =
    let f = stands_filtered (λ (e : Timer). not (same_op e.op op)) d (timers past) s in
    let no : same_op op d.op ≡ false = apart d.op op (same_op op d.op) refl (not_true (same_op d.op op) f.1) in
    subst (λ (n : ℕ). 1 ≤ n) (sym (occurs-without_other (pend past) op d.op no)) (timed_pending past d f.0)
timed_pending (Tick t due ∷ past) d s = timed_pending past d (stands_filtered (λ (e : Timer). not (is_due t e)) d (timers past) s).0
timed_pending (_ ∷ past) d s = timed_pending past d s

due_pending : (past : List Entry) (t : ℕ) (op : OpName) → Stands op (due_at past t) → IsPending past op
due_pending past t op s =
    let m = stands_mapped (λ (d : Timer). d.op) op (by_deadline (filter (is_due t) (timers past))) s in
    let f = stands_filtered (is_due t) m.0 (timers past) (stands_ordered m.0 (filter (is_due t) (timers past)) m.1) in
    subst (IsPending past) m.2 (timed_pending past m.0 f.0)

-- ---- No due list names what has ended

counted_all : (z : Setting) (past : List Entry) (op : OpName) → AreAllowed z past → Counted past op
counted_all z [] op a = (refl, omega arith, λ p. omega arith)
counted_all z (e ∷ past) op a = counted_next z a.0.0 past e op (counted_all z past op a.1) a.0.1.itself

end_grows : (op : OpName) (e : Entry) (past : List Entry) → end_count past op ≤ end_count (e ∷ past) op
end_grows op (End other ending) past = go (same_op other op)
  where
    go : (b : Bool) → end_count past op ≤ cond b (end_count past op + 1) (end_count past op)
    go true = omega arith
    go false = omega arith
end_grows op _ past = omega arith

more_ended : (op : OpName) (later past : List Entry) → end_count past op ≤ end_count (later ++ past) op
more_ended op [] past = omega arith
more_ended op (e ∷ later) past = omega (arith, end_grows op e (later ++ past), more_ended op later past)

-- a tick that names an operation which has ended comes before its end
not_after : (z : Setting) (later past : List Entry) (op : OpName) (at : ℕ) (due : List OpName) → AreAllowed z (later ++ past) → 1 ≤ end_count past op → Stands op due → Stands (Tick at due) (later ++ past) → Stands (Tick at due) past
not_after z [] past op at due a ended named s = s
not_after z (e ∷ later) past op at due a ended named (inl is) =
    let tick : (k : ℕ) × Allowed z k (later ++ past) (Tick at due) = subst (λ (x : Entry). (k : ℕ) × Allowed z k (later ++ past) x) is a.0 in
    let pends : IsPending (later ++ past) op = due_pending (later ++ past) at op (subst (Stands op) tick.1.itself.1 named) in
    let counts : Counted (later ++ past) op = counted_all z (later ++ past) op a.1 in
    absurd (omega (arith, pends, counts.0, counts.1, ended, more_ended op later past))
not_after z (e ∷ later) past op at due a ended named (inr s) = not_after z later past op at due a.1 ended named s

-- ---- Each that timed out

snoc_append : (later : List Entry) (e : Entry) (past : List Entry) → (later ++ e ∷ []) ++ past ≡ later ++ e ∷ past
snoc_append [] e past = refl
snoc_append (x ∷ later) e past = ap (λ (es : List Entry). x ∷ es) (snoc_append later e past)

stands_left : {A : Type 0} (x : A) (xs ys : List A) → Stands x xs → Stands x (xs ++ ys)
stands_left x [] ys s = absurd s
stands_left x (y ∷ xs) ys (inl e) = inl e
stands_left x (y ∷ xs) ys (inr s) = inr (stands_left x xs ys s)

ends_more : (x : OpName × Ending) (later past : List Entry) → Stands x (ends past) → Stands x (ends (later ++ past))
ends_more x [] past s = s
ends_more x (End op ending ∷ later) past s = stands_left x (ends (later ++ past)) ((op, ending) ∷ []) (ends_more x later past s)
ends_more x (_ ∷ later) past s = ends_more x later past s

abbrev Given : List Entry → Type 0
Given whole = (op : OpName) (by : ℕ) → Stands (op, Gone causes.TimedOut by) (ends whole) → IsDueBefore op whole

not_the_end : (op : OpName) (ending : Ending) (at : ℕ) (due : List OpName) (past : List Entry) → Stands (Tick at due) (End op ending ∷ past) → Stands (Tick at due) past
not_the_end op ending at due past (inl e) = absurd (cc)
not_the_end op ending at due past (inr s) = s

one_timed : (z : Setting) (later past : List Entry) (op : OpName) (by : ℕ) → AreAllowed z (later ++ End op (Gone causes.TimedOut by) ∷ past) → Given (later ++ End op (Gone causes.TimedOut by) ∷ past) → IsDueBefore op past
one_timed z later past op by a given =
    let e : Entry = End op (Gone causes.TimedOut by) in
    let d = given op by (ends_more (op, Gone causes.TimedOut by) later (e ∷ past) (stands_last (op, Gone causes.TimedOut by) (ends past))) in
    let one : 1 ≤ end_count (e ∷ past) op = subst (λ (b : Bool). 1 ≤ cond b (end_count past op + 1) (end_count past op)) (sym (same_op-refl op)) (omega arith) in
    (d.0, d.1, not_the_end op (Gone causes.TimedOut by) d.0 d.1 past (not_after z later (e ∷ past) op d.0 d.1 a one d.3 d.2), d.3)

from_here : (z : Setting) (later past : List Entry) → AreAllowed z (later ++ past) → Given (later ++ past) → AllWereDue past
from_here z later [] a given = tt
from_here z later (End op (Gone causes.TimedOut by) ∷ past) a given =
    let e : Entry = End op (Gone causes.TimedOut by) in
    (one_timed z later past op by a given, from_here z (later ++ e ∷ []) past (subst (AreAllowed z) (sym (snoc_append later e past)) a) (subst Given (sym (snoc_append later e past)) given))
from_here z later (e ∷ past) a given = from_here z (later ++ e ∷ []) past (subst (AreAllowed z) (sym (snoc_append later e past)) a) (subst Given (sym (snoc_append later e past)) given)

-- ---- Of turns

stands_onto : (e : Entry) (es past : List Entry) → Stands e past → Stands e (onto es past)
stands_onto e [] past s = s
stands_onto e (x ∷ es) past s = stands_onto e es (x ∷ past) (inr s)

stands_in_turn : (e : Entry) (es past : List Entry) → Stands e es → Stands e (onto es past)
stands_in_turn e [] past s = absurd s
stands_in_turn e (x ∷ es) past (inl is) = stands_onto e es (x ∷ past) (inl is)
stands_in_turn e (x ∷ es) past (inr s) = stands_in_turn e es (x ∷ past) s

stands_from : (e : Entry) (h : List (Turn Entry)) (past : List Entry) → Stands e past → Stands e (past_from past h)
stands_from e [] past s = s
stands_from e (t ∷ h) past s = stands_from e h (onto t.entries past) (stands_onto e t.entries past s)

stands_in_all : (e : Entry) (t : Turn Entry) (h : List (Turn Entry)) (past : List Entry) → Stands t h → Stands e t.entries → Stands e (past_from past h)
stands_in_all e t [] past s i = absurd s
stands_in_all e t (u ∷ h) past (inl is) i = stands_from e h (onto u.entries past) (stands_in_turn e u.entries past (subst (λ (x : Turn Entry). Stands e x.entries) (sym is) i))
stands_in_all e t (u ∷ h) past (inr s) i = stands_in_all e t h (onto u.entries past) s i

-- where each that timed out fell due in some turn, it fell due before
pub all_before : (z : Setting) (h : List (Turn Entry)) → Legal z h → ((op : OpName) (by : ℕ) → Stands (op, Gone causes.TimedOut by) (ends (past_of h)) → IsDueIn op h) → AllWereDue (past_of h)
all_before z h l given =
    from_here z [] (past_of h) (legal_allowed z h l) (λ op by s. let d = given op by s in (d.at, d.due, stands_in_all (Tick d.at d.due) d.turn h [] d.stands d.ticks, d.named))
