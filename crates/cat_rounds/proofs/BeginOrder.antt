-- What follows from the order of begins and collectings: the operation that is pending, the one that has ended, and
-- that the play is not over while an operation is under way.
use Rattle.std.proofs.Common.{◌≡◌, refl, ap, sym, ◌∙◌, subst, List, [], ◌∷◌, ◌++◌, ℕ, ◌+◌, ◌≤◌, Bool, true, false, arith, Option, Some, None}
use Rattle.std.specs.Prelude.{not, ◌&&◌, ◌||◌, IsTrue, if◌then◌else◌, find, filter, is_some, is_none}
use Rattle.turn_lock.specs.declared.turn.Turn.{Turn}
use Rattle.sp_base.specs.declared.OpName.{OpName}
use Rattle.sp_history.specs.declared.entry.Ending.{Ending}
use Rattle.sp_history.specs.declared.entry.Entry.{Entry}
use Rattle.sp_history.specs.declared.entry.Entry.TheVariants.{Begin, End, Took, Tick, Close}
use Rattle.sp_history.specs.declared.parts.Begun.{Begun}
use Rattle.sp_history.specs.declared.parts.OperationEnd.{OperationEnd}
use Rattle.sp_history.specs.declared.setting.Setting.{Setting}
use Rattle.sp_history.specs.Lists.{same_op}
use Rattle.std.specs.List.{list_any}
use Rattle.sp_history.specs.Once.{begin_count, end_count, took_count, occurs}
use Rattle.sp_history.specs.Past.{onto, past_of, is_closed, is_of, pend, pending, uncollected, ended_as}
use Rattle.sp_history.specs.Legal.{Legal, is_uncollected}
use Rattle.sp_history.specs.Found.{end_of}
use Rattle.sp_history.proofs.OnceHolds.{same_op-refl, same_op-eq, ends_once, legal_counted}
use Rattle.sp_history.proofs.Filters.{pending_means}
use Rattle.cat_play.specs.Plans.{Play}
use Rattle.cat_play.specs.Scripts.{open_part, under_way, count_in, timed_out_in, over, has_reached}
use Rattle.sp_ends.specs.Entries.{each}
use Rattle.cat_play.specs.Playing.{alternates, is_op, is_in_turn, is_left, has_ended}
use Rattle.cat_play.proofs.Stepping.{open_is}

left_true : (a b : Bool) → (a && b) ≡ true → a ≡ true
left_true true b h = refl
left_true false b h = cc

right_true : (a b : Bool) → (a && b) ≡ true → b ≡ true
right_true true b h = h
right_true false b h = cc

pub later_rule : (rule : List Entry → Entry → Bool) (e : Entry) (past : List Entry) → IsTrue (each rule (e ∷ past)) → IsTrue (each rule past)
later_rule rule e past h = right_true (rule past e) (each rule past) h

later : (e : Entry) (past : List Entry) → IsTrue (each alternates (e ∷ past)) → IsTrue (each alternates past)
later = later_rule alternates

-- ---- The operation that is under way

pub is_op_means : (o : Option OpName) (op : OpName) → is_op o op ≡ true → o ≡ Some op
is_op_means None op h = cc
is_op_means (Some other) op h = ap (λ x. Some x) (same_op-eq other op h)

pub none_means : (o : Option OpName) → is_none o ≡ true → o ≡ None
none_means None h = refl
none_means (Some op) h = cc

-- 1 if the operation is under way
abbrev busy : Option OpName → OpName → ℕ
busy None op = 0
busy (Some o) op = if same_op o op then 1 else 0

begin_took : (past : List Entry) → IsTrue (each alternates past) → (op : OpName) → begin_count past op ≤ took_count past op + busy (under_way past) op
begin_took [] h op = omega arith
begin_took (Begin o k c act d ∷ past) h op =
    let free = none_means (under_way past) (left_true _ _ (left_true _ _ h)) in
    let before = begin_took past (right_true _ _ h) op in
    go (same_op o op) (subst (λ (w : Option OpName). begin_count past op ≤ took_count past op + busy w op) free before)
  where
    go : (b : Bool) → begin_count past op ≤ took_count past op + 0 → (if b then begin_count past op + 1 else begin_count past op) ≤ took_count past op + (if b then 1 else 0)
    go true m = omega arith
    go false m = omega arith
begin_took (Took o k ∷ past) h op =
    let is = is_op_means (under_way past) o (left_true _ _ h) in
    let before = begin_took past (right_true _ _ h) op in
    go (same_op o op) (subst (λ (w : Option OpName). begin_count past op ≤ took_count past op + busy w op) is before)
  where
    go : (b : Bool) → begin_count past op ≤ took_count past op + (if b then 1 else 0) → begin_count past op ≤ (if b then took_count past op + 1 else took_count past op) + 0
    go true m = omega arith
    go false m = omega arith
begin_took (e ∷ past) h op = begin_took past (later e past h) op

-- where no operation is under way, none is pending
none_pending : (ss : List Begun) → ((op : OpName) → occurs ss op ≡ 0) → ss ≡ []
none_pending [] h = refl
none_pending (s ∷ ss) h =
    let e : (if is_of s.op s then occurs ss s.op + 1 else occurs ss s.op) ≡ 0 = h s.op in
    let f : occurs ss s.op + 1 ≡ 0 = subst (λ (b : Bool). (if b then occurs ss s.op + 1 else occurs ss s.op) ≡ 0) (same_op-refl s.op) e in
    let bad : ⊥ = omega arith in elim bad [ ]

unpended : (z : Setting) (h : List (Turn Entry)) → Legal z h → IsTrue (each alternates (past_of h)) → under_way (past_of h) ≡ None → (op : OpName) → occurs (pend (past_of h)) op ≡ 0
unpended z h legal orders free op =
    let all = legal_counted z h op legal in
    let once = ends_once z h op legal in
    let most = subst (λ (w : Option OpName). begin_count (past_of h) op ≤ took_count (past_of h) op + busy w op) free (begin_took (past_of h) orders op) in
    omega (arith, all.0, once.collected, most)

pub free_pends_none : (z : Setting) (h : List (Turn Entry)) → Legal z h → IsTrue (each alternates (past_of h)) → under_way (past_of h) ≡ None → pend (past_of h) ≡ []
free_pends_none z h legal orders free = none_pending (pend (past_of h)) (unpended z h legal orders free)

-- ---- What had ended

pub left_has_ended : (past : List Entry) → IsTrue (each alternates past) → is_left past ≡ true → (op : OpName) × (under_way past ≡ Some op) × (is_some (end_of past op) ≡ true)
left_has_ended [] h left = cc
left_has_ended (Tick t due ∷ past) h left = go (under_way past) refl left
  where
    go : (w : Option OpName) → under_way past ≡ w → has_ended past w ≡ true → (op : OpName) × (under_way past ≡ Some op) × (is_some (end_of past op) ≡ true)
    go None e l = cc
    go (Some op) e l = (op, e, l)
left_has_ended (Took o k ∷ past) h left = cc
left_has_ended (Begin o k c act d ∷ past) h left =
    let free = none_means (under_way past) (left_true _ _ (left_true _ _ h)) in
    go (left_has_ended past (right_true _ _ h) left) free
  where
    go : {B : Type 0} → ((op : OpName) × (under_way past ≡ Some op) × (is_some (end_of past op) ≡ true)) → under_way past ≡ None → B
    go (op, e, l) free = cc
left_has_ended (End o x ∷ past) h left = go (left_has_ended past (later (End o x) past h) left)
  where
    one : (op : OpName) (b : Bool) → is_some (end_of past op) ≡ true → is_some (if b then Some x else end_of past op) ≡ true
    one op true l = refl
    one op false l = l

    go : ((op : OpName) × (under_way past ≡ Some op) × (is_some (end_of past op) ≡ true)) → (op : OpName) × (under_way past ≡ Some op) × (is_some (end_of (End o x ∷ past) op) ≡ true)
    go (op, e, l) = (op, e, one op (same_op o op) l)
left_has_ended (e ∷ past) h left = left_has_ended past (later e past h) left

-- an end that is found is counted
end_counts : (past : List Entry) (op : OpName) → is_some (end_of past op) ≡ true → 1 ≤ end_count past op
end_counts [] op h = cc
end_counts (End o x ∷ past) op h = go (same_op o op) h (end_counts past op)
  where
    go : (b : Bool) → is_some (if b then Some x else end_of past op) ≡ true → (is_some (end_of past op) ≡ true → 1 ≤ end_count past op) → 1 ≤ (if b then end_count past op + 1 else end_count past op)
    go true h again = omega arith
    go false h again = again h
end_counts (_ ∷ past) op h = end_counts past op h

end_more : (e : Entry) (past : List Entry) (op : OpName) → end_count past op ≤ end_count (e ∷ past) op
end_more (End other x) past op = go (same_op other op)
  where
    go : (b : Bool) → end_count past op ≤ (if b then end_count past op + 1 else end_count past op)
    go true = omega arith
    go false = omega arith
end_more _ past op = omega arith

pub end_grows : (entries past : List Entry) (op : OpName) → end_count past op ≤ end_count (onto entries past) op
end_grows [] past op = omega arith
end_grows (e ∷ entries) past op = let a = end_more e past op in let b = end_grows entries (e ∷ past) op in omega arith

-- the end stays, where the operation ends once
pub end_stays : (entries past : List Entry) (op : OpName) (x : Ending) → end_of past op ≡ Some x → end_count (onto entries past) op ≤ 1 → end_of (onto entries past) op ≡ Some x
end_stays [] past op x h once = h
end_stays (End o y ∷ entries) past op x h once =
    end_stays entries (End o y ∷ past) op x (go (same_op o op) (end_grows entries (End o y ∷ past) op) (end_counts past op (rw h refl))) once
  where
    go : (b : Bool) → (if b then end_count past op + 1 else end_count past op) ≤ end_count (onto entries (End o y ∷ past)) op → 1 ≤ end_count past op → (if b then Some y else end_of past op) ≡ Some x
    go true m n = let bad : ⊥ = omega arith in elim bad [ ]
    go false m n = h
end_stays (e ∷ entries) past op x h once = end_stays entries (e ∷ past) op x h once

-- what is pending has no end
pub pending_has_none : (z : Setting) (h : List (Turn Entry)) (op : OpName) → Legal z h → is_some (pending (past_of h) op) ≡ true → is_some (end_of (past_of h) op) ≡ true → ⊥
pending_has_none z h op legal is found =
    let unended = (pending_means z h op legal).0 is in
    let counts = end_counts (past_of h) op found in
    omega (arith, unended.1, counts)

-- so nothing that is pending was left
pub pending_is_not_left : (z : Setting) (h : List (Turn Entry)) (op : OpName) → Legal z h → IsTrue (each alternates (past_of h)) → under_way (past_of h) ≡ Some op → is_some (pending (past_of h) op) ≡ true → is_left (past_of h) ≡ false
pending_is_not_left z h op legal orders under is = go (is_left (past_of h)) refl
  where
    none : {B : Type 0} → ((o : OpName) × (under_way (past_of h) ≡ Some o) × (is_some (end_of (past_of h) o) ≡ true)) → B
    none (o, e, l) = let same : Some o ≡ Some op = sym e ∙ under in let eq : o ≡ op = cc in elim (pending_has_none z h op legal is (subst (λ (n : OpName). is_some (end_of (past_of h) n) ≡ true) eq l)) [ ]

    go : (b : Bool) → is_left (past_of h) ≡ b → b ≡ false
    go true e = none (left_has_ended (past_of h) orders e)
    go false e = refl

-- what ended and was not collected has an end
any_append : (f : OperationEnd → Bool) (a b : List OperationEnd) → list_any f (a ++ b) ≡ (list_any f a || list_any f b)
any_append f [] b = refl
any_append f (x ∷ a) b = go (f x) (any_append f a b)
  where
    go : (y : Bool) → list_any f (a ++ b) ≡ (list_any f a || list_any f b) → (y || list_any f (a ++ b)) ≡ ((y || list_any f a) || list_any f b)
    go true h = refl
    go false h = h

any_filter : (f g : OperationEnd → Bool) (xs : List OperationEnd) → list_any f (filter g xs) ≡ true → list_any f xs ≡ true
any_filter f g [] h = h
any_filter f g (x ∷ xs) h = go (g x) h (any_filter f g xs)
  where
    either : (w : Bool) → (w || list_any f (filter g xs)) ≡ true → (list_any f (filter g xs) ≡ true → list_any f xs ≡ true) → (w || list_any f xs) ≡ true
    either true k again = refl
    either false k again = again k

    or : (w : Bool) → list_any f xs ≡ true → (w || list_any f xs) ≡ true
    or true k = refl
    or false k = k

    go : (y : Bool) → list_any f (if y then x ∷ filter g xs else filter g xs) ≡ true → (list_any f (filter g xs) ≡ true → list_any f xs ≡ true) → (f x || list_any f xs) ≡ true
    go true k again = either (f x) k again
    go false k again = or (f x) (again k)

found_is : (o : OpName) (ss : List Begun) (s : Begun) → find (is_of o) ss ≡ Some s → same_op s.op o ≡ true
found_is o [] s h = cc
found_is o (t ∷ ss) s h = go (is_of o t) refl h (found_is o ss s)
  where
    go : (b : Bool) → same_op t.op o ≡ b → (if b then Some t else find (is_of o) ss) ≡ Some s → (find (is_of o) ss ≡ Some s → same_op s.op o ≡ true) → same_op s.op o ≡ true
    go true e h again = let same : t ≡ s = cc in subst (λ (x : Begun). same_op x.op o ≡ true) same e
    go false e h again = again h

ended_is : (past : List Entry) (op o : OpName) (x : Ending) (s : Option Begun) → find (is_of o) (pend past) ≡ s → list_any (λ (e : OperationEnd). is_of op e.begun) (ended_as x s) ≡ true → same_op o op ≡ true
ended_is past op o x None h any = cc
ended_is past op o x (Some s) h any =
    let a : s.op ≡ o = same_op-eq s.op o (found_is o (pend past) s h) in
    subst (λ (n : OpName). same_op n op ≡ true) a (only (same_op s.op op) any)
  where
    only : (b : Bool) → (b || false) ≡ true → b ≡ true
    only true h = refl
    only false h = h

pub uncollected_has_end : (past : List Entry) (op : OpName) → is_uncollected past op ≡ true → is_some (end_of past op) ≡ true
uncollected_has_end [] op h = cc
uncollected_has_end (End o x ∷ past) op h =
    go (list_any (λ (e : OperationEnd). is_of op e.begun) (uncollected past)) refl (sym (any_append (λ (e : OperationEnd). is_of op e.begun) (uncollected past) (ended_as x (pending past o))) ∙ h) (uncollected_has_end past op)
  where
    either : (b : Bool) → is_some (end_of past op) ≡ true → is_some (if b then Some x else end_of past op) ≡ true
    either true l = refl
    either false l = l

    go : (b : Bool) → list_any (λ (e : OperationEnd). is_of op e.begun) (uncollected past) ≡ b → (list_any (λ (e : OperationEnd). is_of op e.begun) (uncollected past) || list_any (λ (e : OperationEnd). is_of op e.begun) (ended_as x (pending past o))) ≡ true
        → (is_uncollected past op ≡ true → is_some (end_of past op) ≡ true) → is_some (end_of (End o x ∷ past) op) ≡ true
    go true e k again = either (same_op o op) (again e)
    go false e k again = rw (ended_is past op o x (pending past o) refl (subst (λ (b : Bool). (b || list_any (λ (d : OperationEnd). is_of op d.begun) (ended_as x (pending past o))) ≡ true) e k)) refl
uncollected_has_end (Took o k ∷ past) op h = uncollected_has_end past op (any_filter _ _ (uncollected past) h)
uncollected_has_end (_ ∷ past) op h = uncollected_has_end past op h

-- ---- The play goes on while an operation is under way

abbrev pub over_in : Setting → Play → List Entry → Bool
over_in z play past = has_reached play.count (count_in z play past) || timed_out_in true past || timed_out_in false past

not_over : (b c : Bool) → (not b && c) ≡ true → b ≡ false
not_over true c h = cc
not_over false c h = refl

pub open_over : (z : Setting) (play : Play) (past : List Entry) → is_closed past ≡ false → over z play past ≡ over_in z play past
open_over z play past open_ = ap (over_in z play) (open_is past open_)

pub going : (z : Setting) (play : Play) (op : OpName) (past : List Entry) → is_closed past ≡ false → IsTrue (each (is_in_turn z play) past) → under_way past ≡ Some op → over_in z play past ≡ false
going z play op [] open_ turns under = cc
going z play op (Begin o k c act d ∷ past) open_ turns under =
    sym (open_over z play past open_) ∙ not_over (over z play past) _ (left_true _ _ turns)
going z play op (Took o k ∷ past) open_ turns under = cc
going z play op (Close t ∷ past) open_ turns under = cc
going z play op (e ∷ past) open_ turns under = going z play op past open_ (later_rule (is_in_turn z play) e past turns) under

pub goes_on_while_busy : (z : Setting) (play : Play) (op : OpName) (past : List Entry) → is_closed past ≡ false → IsTrue (each (is_in_turn z play) (open_part past)) → under_way past ≡ Some op → over z play past ≡ false
goes_on_while_busy z play op past open_ turns under =
    open_over z play past open_ ∙ going z play op past open_ (subst (λ (p : List Entry). IsTrue (each (is_in_turn z play) p)) (open_is past open_) turns) under
