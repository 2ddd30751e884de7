-- An operation begins in the slot that was drawn.
use Rattle.std.proofs.Common.{◌≡◌, refl, ap, sym, ◌∙◌, subst, List, [], ◌∷◌, ◌++◌, ℕ, ◌+◌, ◌<◌, ◌≤◌, Bool, true, false, cond, arith, Option, Some, None, length, vec_capacity, length-append, append-nil, inl, inr}
use Rattle.std.specs.Prelude.{filter, map, is_some, not, ◌&&◌, ◌||◌, ◌==◌, ◌⊎◌}
use Rattle.std.specs.List.{All, list_any, AllByRecursion as Each}
use Rattle.std.proofs.lemmas.List.{map-append}
use Rattle.std.proofs.lemmas.List.Elements.{All-nil, All-head, All-from_recursion}
use Rattle.std.proofs.lemmas.List.Folds.{list_any-append}
use Rattle.std.proofs.lemmas.Bool.{or_parts}
use Rattle.std.proofs.lemmas.Bool.Decides.{nat_tests}
use Rattle.aio_expire.specs.Schedule.{Schedule, put_in, count_of}
use Rattle.sp_base.specs.declared.OpName.{OpName}
use Rattle.sp_history.specs.declared.entry.RecordedAct.{RecordedAct}
use Rattle.sp_history.specs.declared.entry.Entry.{Entry}
use Rattle.sp_history.specs.declared.entry.Entry.TheVariants.{Begin}
use Rattle.sp_history.specs.declared.parts.OperationEnd.{OperationEnd}
use Rattle.sp_history.specs.declared.parts.Timer.{Timer}
use Rattle.sp_history.specs.declared.setting.Setting.{Setting}
use Rattle.sp_history.specs.Lists.{has}
use Rattle.sp_history.specs.Past.{pend, uncollected, begins, timers, timer_of}
use Rattle.sp_history.specs.Once.{occurs}
use Rattle.sp_history.specs.Legal.{is_free, is_at}
use Rattle.sp_history.specs.Moments.{Moment, past, also, Lawful, starts_back}
use Rattle.core_state.specs.declared.operations.Operations.{Operations}
use Rattle.core_state.specs.declared.pending.PendingOperation.{PendingOperation}
use Rattle.core_state.specs.OperationsStand.{OperationsStand, IsWornOut, pending_of, deadline_of, deadlines_of}
use Rattle.sp_history.specs.declared.parts.Begun.{Begun}
use Rattle.core_state.specs.Pendings.{NotIn, slot_of}
use Rattle.core_state.proofs.RingSteps.{is_same}
use Rattle.core_state.proofs.Lawfuls.{none_at}
use Rattle.core_state.proofs.Timing.{Each-weaker, deadlines_put, deadlines_none}
use Rattle.core_state.proofs.PendingEnds.{timed}

-- ---- The moment before

starts_before : (z : Setting) (turn : List Entry) (e : Entry) → starts_back z (e ∷ turn) ≡ true → starts_back z turn ≡ true
starts_before z [] e h = refl
starts_before z (d ∷ turn) e h = h

pub lawful_before : (t : Moment) (e : Entry) → Lawful (also t e) → Lawful t
lawful_before t e l = record { history = l.history; legal = l.legal; before = l.before; turn = l.turn.1; starts = starts_before t.z t.turn e l.starts }

-- ---- Deadlines

both_not : (a b : Bool) → (not a && not b) ≡ true → a ≡ false
both_not true b h = absurd cc
both_not false b h = refl

-- a slot that is free has no timer
apart_timers : (t : Moment) (slot : ℕ) → Lawful t → is_free (past t) slot ≡ true → Each (λ x. (slot == x.op.slot) ≡ false) (timers (past t))
apart_timers t slot l f =
    Each-weaker (λ (x : Timer). 1 ≤ occurs (pend (past t)) x.op) (λ (x : Timer). (slot == x.op.slot) ≡ false) (λ x k. none_at (pend (past t)) x.op slot (both_not (list_any (is_at slot) (pend (past t))) _ f) k) (timers (past t)) (timed t l)

other_way : (x y : ℕ) → (x == y) ≡ false → (y == x) ≡ false
other_way x y h = grind (arith, nat_tests)

pub drawn_free : (s : Operations) (t : Moment) (slot : ℕ) → OperationsStand (slot ∷ []) s t → (slot < t.z.slots) × (is_free (past t) slot ≡ true) × (has s.free.items slot ≡ false)
drawn_free s t slot h = All-head (λ i. (i < t.z.slots) × (is_free (past t) i ≡ true) × (has s.free.items i ≡ false)) slot [] h.drawn_is

pub slot_idle : (s : Operations) (t : Moment) (slot : ℕ) → OperationsStand (slot ∷ []) s t → Lawful t → count_of slot s.deadlines.schedule.entries ≡ 0
slot_idle s t slot h l =
    let apart = apart_timers t slot l (drawn_free s t slot h).1 in
    ap (λ (v : Schedule). count_of slot v.entries) h.deadlines_are ∙ deadlines_none slot (timers (past t)) (Each-weaker (λ (x : Timer). (slot == x.op.slot) ≡ false) (λ (x : Timer). (x.op.slot == slot) ≡ false) (λ x k. other_way slot x.op.slot k) (timers (past t)) apart)

pub with_deadline : (s : Operations) (t : Moment) (op : OpName) (due : ℕ) → OperationsStand (op.slot ∷ []) s t → Lawful t
    → record s.deadlines.schedule { entries = put_in (record { at = due; op = op }) s.deadlines.schedule.entries } ≡ record { slots = t.z.slots; entries = deadlines_of (timers (past t) ++ timer_of op (Some due)) }
with_deadline s t op due h l =
    let apart = apart_timers t op.slot l (drawn_free s t op.slot h).1 in
    let d : Timer = record { due = due; op = op } in
    ap (λ (v : Schedule). record v { entries = put_in (deadline_of d) v.entries }) h.deadlines_are ∙ ap (λ xs. record { slots = t.z.slots; entries = xs }) (sym (deadlines_put (timers (past t)) d apart))

pub with_none : (s : Operations) (t : Moment) (op : OpName) → OperationsStand (op.slot ∷ []) s t → s.deadlines.schedule ≡ record { slots = t.z.slots; entries = deadlines_of (timers (past t) ++ timer_of op None) }
with_none s t op h = h.deadlines_are ∙ ap (λ xs. record { slots = t.z.slots; entries = deadlines_of xs }) (sym (append-nil (timers (past t))))

-- no operation of a free slot is pending
none_of_slot : (slot : ℕ) (ss : List Begun) → list_any (is_at slot) ss ≡ false → NotIn slot (map slot_of (map pending_of ss))
none_of_slot slot [] h = tt
none_of_slot slot (s ∷ ss) h =
    let parts : ((s.op.slot == slot) ≡ false) × (list_any (is_at slot) ss ≡ false) = or_parts (s.op.slot == slot) (list_any (is_at slot) ss) h in
    ((λ e. let no : true ≡ false = sym (is_same s.op.slot slot e) ∙ parts.0 in absurd cc), none_of_slot slot ss parts.1)

pub slot_apart : (s : Operations) (t : Moment) (slot : ℕ) → OperationsStand (slot ∷ []) s t → NotIn slot (map slot_of s.pending.items)
slot_apart s t slot h =
    subst (λ (xs : List PendingOperation). NotIn slot (map slot_of xs)) (sym h.pending_is) (none_of_slot slot (pend (past t)) (both_not (list_any (is_at slot) (pend (past t))) _ (drawn_free s t slot h).1))

pub slot_inside : (s : Operations) (t : Moment) (slot : ℕ) → OperationsStand (slot ∷ []) s t → slot < s.pending.slots
slot_inside s t slot h = omega (arith, (drawn_free s t slot h).0, h.pending_slots)

pub has_room : (s : Operations) (t : Moment) (slot : ℕ) → OperationsStand (slot ∷ []) s t → length s.pending.items < s.pending.slots
has_room s t slot h = omega (arith, h.fits, h.pending_slots)

-- ---- Slots

module _ (before : List Entry) (op : OpName) (k c : ℕ) (act : RecordedAct) (d : Option ℕ) (i : ℕ) where
  free_now : is_free (Begin op k c act d ∷ before) i ≡ (not (list_any (is_at i) (pend before) || ((op.slot == i) || false)) && not (list_any (λ (e : OperationEnd). is_at i e.begun) (uncollected before)))
  free_now = ap (λ (b : Bool). not b && not (list_any (λ (e : OperationEnd). is_at i e.begun) (uncollected before))) (list_any-append (is_at i) (pend before) (record { op = op; ctx = c; act = act } ∷ []))

  pub free_else : (op.slot == i) ≡ false → is_free (Begin op k c act d ∷ before) i ≡ is_free before i
  free_else e = free_now ∙ ap (λ (b : Bool). not (list_any (is_at i) (pend before) || (b || false)) && not (list_any (λ (e : OperationEnd). is_at i e.begun) (uncollected before))) e ∙ go (list_any (is_at i) (pend before)) (list_any (λ (e : OperationEnd). is_at i e.begun) (uncollected before))
    where
      go : (a b : Bool) → (not (a || false) && not b) ≡ (not a && not b)
      go true b = refl
      go false b = refl

  taken : (op.slot == i) ≡ true → is_free (Begin op k c act d ∷ before) i ≡ false
  taken e = free_now ∙ ap (λ (b : Bool). not (list_any (is_at i) (pend before) || (b || false)) && not (list_any (λ (e : OperationEnd). is_at i e.begun) (uncollected before))) e ∙ go (list_any (is_at i) (pend before)) (list_any (λ (e : OperationEnd). is_at i e.begun) (uncollected before))
    where
      go : (a b : Bool) → (not (a || true) && not b) ≡ false
      go true b = refl
      go false b = refl

  pub stands : (xs : List ℕ) → is_free (Begin op k c act d ∷ before) i ≡ true → (is_free before i ≡ true → (has xs i ≡ true) ⊎ (has (op.slot ∷ []) i ≡ true) ⊎ IsWornOut (begins before i))
      → (has xs i ≡ true) ⊎ (has [] i ≡ true) ⊎ IsWornOut (begins (Begin op k c act d ∷ before) i)
  stands xs f h = go (op.slot == i) refl
    where
      left : (op.slot == i) ≡ false → (has xs i ≡ true) ⊎ ((op.slot == i) || false) ≡ true ⊎ IsWornOut (begins before i) → (has xs i ≡ true) ⊎ (false ≡ true) ⊎ IsWornOut (begins before i)
      left e (inl x) = inl x
      left e (inr (inl x)) = inr (inl (ap (λ (b : Bool). b || false) (sym e) ∙ x))
      left e (inr (inr x)) = inr (inr x)

      go : (b : Bool) → (op.slot == i) ≡ b → (has xs i ≡ true) ⊎ (false ≡ true) ⊎ IsWornOut (cond b (begins before i + 1) (begins before i))
      go true e =
          let no : false ≡ true = sym (taken e) ∙ f in
          absurd cc
      go false e = left e (h (sym (free_else e) ∙ f))

apart_from : (xs : List ℕ) (slot : ℕ) → has xs slot ≡ false → Each (λ i. (slot == i) ≡ false) xs
apart_from [] slot h = tt
apart_from (x ∷ xs) slot h =
    let parts : ((x == slot) ≡ false) × (has xs slot ≡ false) = or_parts (x == slot) (has xs slot) h in
    (other_way x slot parts.0, apart_from xs slot parts.1)

-- ---- The begin

pub begun : (s r : Operations) (t : Moment) (op : OpName) (c : ℕ) (act : RecordedAct) (d : Option ℕ) → OperationsStand (op.slot ∷ []) s t → r.pending ≡ record s.pending { items = s.pending.items ++ record { op = op; ctx = c } ∷ [] } → r.free ≡ s.free → r.done ≡ s.done
    → r.deadlines.schedule ≡ record { slots = t.z.slots; entries = deadlines_of (timers (past t) ++ timer_of op d) } → OperationsStand [] r (also t (Begin op t.caller c act d))
begun s r t op c act d h pe fe de dl =
    let before = past t in
    let p : r.pending.items ≡ s.pending.items ++ record { op = op; ctx = c } ∷ [] = ap (λ v. v.items) pe in
    let one = drawn_free s t op.slot h in
    let apart : All (λ i. (op.slot == i) ≡ false) s.free.items = All-from_recursion (λ i. (op.slot == i) ≡ false) s.free.items (apart_from s.free.items op.slot one.2) in
    record {
      pending_is = p ∙ ap (λ (xs : List PendingOperation). xs ++ record { op = op; ctx = c } ∷ []) h.pending_is ∙ sym (map-append pending_of (pend before) (record { op = op; ctx = c; act = act } ∷ []));
      done_is = rw de h.done_is;
      deadlines_are = dl;
      free_is = rw fe (λ k e l. let q = h.free_is k e l in (q.0, free_else before op t.caller c act d _ (apart k e l) ∙ q.1));
      drawn_is = All-nil (λ i. (i < t.z.slots) × (is_free (Begin op t.caller c act d ∷ before) i ≡ true) × (has r.free.items i ≡ false));
      free_apart = rw fe h.free_apart;
      every = rw fe (λ i l f. stands before op t.caller c act d i s.free.items f (h.every i l));
      fits = omega (arith, h.fits, ap length p, length-append s.pending.items (record { op = op; ctx = c } ∷ []), ap (λ v. length v.items) fe, ap (λ v. length (filter is_some v.items)) de);
      pending_slots = ap (λ v. v.slots) pe ∙ h.pending_slots;
      done_places = ap (λ v. length v.items) de ∙ h.done_places;
      free_room = omega (arith, h.free_room, ap (λ v. vec_capacity v) fe);
    }
