-- A pending operation ends, on the lists of operations.
use Rattle.std.proofs.Common.{◌≡◌, refl, ap, sym, ◌∙◌, subst, List, [], ◌++◌, ◌∷◌, ◌+◌, ◌<◌, true, false, arith, Option, Some, None, length, set, vec_capacity}
use Rattle.std.specs.Prelude.{filter, is_some, map, not}
use Rattle.std.proofs.lemmas.List.{length-set}
use Rattle.std.proofs.lemmas.List.Elements.{All-nil, All-weaker}
use Rattle.aio_expire.specs.Schedule.{Schedule, others_than as deadlines_but}
use Rattle.sp_base.specs.declared.OpName.{OpName}
use Rattle.sp_history.specs.declared.entry.Ending.{Ending}
use Rattle.sp_history.specs.declared.entry.Entry.TheVariants.{End}
use Rattle.sp_history.specs.declared.parts.Begun.{Begun}
use Rattle.sp_history.specs.declared.parts.OperationEnd.{OperationEnd}
use Rattle.sp_history.specs.Lists.{has, same_op}
use Rattle.sp_history.specs.Past.{pend, pending, timers, uncollected, without_begun, ended_as}
use Rattle.sp_history.specs.Legal.{is_free}
use Rattle.sp_history.specs.Moments.{Moment, past, also, Lawful}
use Rattle.core_state.specs.declared.operations.Operations.{Operations}
use Rattle.core_state.specs.declared.pending.PendingOperation.{PendingOperation}
use Rattle.core_state.specs.Pendings.{others_than}
use Rattle.core_state.specs.declared.operations.EndedOperation.{EndedOperation}
use Rattle.core_state.specs.declared.outcome.Outcome.{Outcome}
use Rattle.core_state.specs.Ends.{outcome_of, done_of}
use Rattle.core_state.specs.OperationsStand.{OperationsStand, AreBySlot, done_at, pending_of, deadlines_of}
use Rattle.core_state.proofs.Timing.{deadlines_others}
use Rattle.core_state.proofs.PendingEnds.{find-named, without_shorter, length-pending, pending_without, timers_left, as_free}
use Rattle.core_state.proofs.FreedSlots.{pending_inside, none_ended_yet}
use Rattle.core_state.proofs.Outcomes.{put_in, one_more_counted}

-- nothing is at its slot's place yet
pub empty_place : (s : Operations) (t : Moment) (op : OpName) (b : Begun) → OperationsStand [] s t → Lawful t → pending (past t) op ≡ Some b → done_at s.done.items op.slot ≡ None
empty_place s t op b h l p = go (done_at s.done.items op.slot) refl
  where
    go : (o : Option EndedOperation) → done_at s.done.items op.slot ≡ o → o ≡ None
    go None e = refl
    go (Some d) e = let k = (h.done_is op.slot d).0 e in absurd (none_ended_yet t op b l p k.0 k.1 k.2)

-- its slot has a place
pub has_place : (s : Operations) (t : Moment) (op : OpName) (b : Begun) → OperationsStand [] s t → Lawful t → pending (past t) op ≡ Some b → op.slot < length s.done.items
has_place s t op b h l p = omega (arith, pending_inside t op b l p, h.done_places)

-- one more ended
pub one_more_done : (s : Operations) (t : Moment) (op : OpName) (b : Begun) (d : EndedOperation) → OperationsStand [] s t → Lawful t → pending (past t) op ≡ Some b → length (filter is_some (set s.done.items op.slot (Some d))) ≡ length (filter is_some s.done.items) + 1
one_more_done s t op b d h l p = one_more_counted s.done.items op.slot d (empty_place s t op b h l p) (has_place s t op b h l p)

pub ended : (s r : Operations) (t : Moment) (op : OpName) (b : Begun) (ending : Ending) (outcome : Outcome) → OperationsStand [] s t → Lawful t → pending (past t) op ≡ Some b → outcome ≡ outcome_of b ending
    → r.pending ≡ record s.pending { items = others_than op s.pending.items } → r.done.items ≡ set s.done.items op.slot (Some (record { op = op; outcome = outcome })) → r.free ≡ s.free → r.deadlines.schedule ≡ record s.deadlines.schedule { entries = deadlines_but op.slot s.deadlines.schedule.entries }
    → OperationsStand [] r (also t (End op ending))
ended s r t op b ending outcome h l p o left de fe dl =
    let before = past t in
    let pe : r.pending.items ≡ others_than op s.pending.items = ap (λ v. v.items) left in
    let named : b.op ≡ op = find-named (pend before) op b p in
    let pend_is : r.pending.items ≡ map pending_of (without_begun (pend before) op) = pe ∙ ap (filter (λ (x : PendingOperation). not (same_op x.op op))) h.pending_is ∙ pending_without (pend before) op in
    let one : EndedOperation = record { op = op; outcome = outcome } in
    let one_is : one ≡ done_of (record { begun = b; ending = ending }) = λ i. record { op = sym named i; outcome = o i } in
    let x : OperationEnd = record { begun = b; ending = ending } in
    let set_is : AreBySlot r.done.items (uncollected before ++ x ∷ []) =
    subst (λ (xs : List (Option EndedOperation)). AreBySlot xs (uncollected before ++ x ∷ [])) (sym de) (put_in s.done.items (uncollected before) op.slot x one h.done_is (has_place s t op b h l p) (ap (λ (o : OpName). o.slot) named) one_is (none_ended_yet t op b l p)) in
    let done_is : AreBySlot r.done.items (uncollected before ++ ended_as ending (pending before op)) = rw p set_is in
    let due : r.deadlines.schedule ≡ record { slots = t.z.slots; entries = deadlines_of (filter (λ x. not (same_op x.op op)) (timers before)) } =
    dl ∙ ap (λ (v : Schedule). record v { entries = deadlines_but op.slot v.entries }) h.deadlines_are ∙ ap (λ xs. record { slots = t.z.slots; entries = xs }) (deadlines_others op.slot (timers before) ∙ ap deadlines_of (timers_left t op b l p)) in
    let less = without_shorter (pend before) op b p in
    record {
      pending_is = pend_is;
      done_is = done_is;
      deadlines_are = due;
      free_is = rw fe (All-weaker (λ i. (i < t.z.slots) × (is_free before i ≡ true)) (λ i. (i < t.z.slots) × (is_free (End op ending ∷ before) i ≡ true)) (λ i k. (k.0, as_free i op before b ending p ∙ k.1)) s.free.items h.free_is);
      drawn_is = All-nil (λ i. (i < t.z.slots) × (is_free (End op ending ∷ before) i ≡ true) × (has r.free.items i ≡ false));
      free_apart = rw fe h.free_apart;
      every = rw fe (λ i k f. h.every i k (sym (as_free i op before b ending p) ∙ f));
      fits = omega (arith, h.fits, less, ap (λ v. length v.items) fe, ap length pend_is, ap length h.pending_is, length-pending (pend before), length-pending (without_begun (pend before) op), ap (λ (xs : List (Option EndedOperation)). length (filter is_some xs)) de, one_more_done s t op b one h l p);
      pending_slots = ap (λ v. v.slots) left ∙ h.pending_slots;
      done_places = ap length de ∙ length-set s.done.items op.slot (Some one) ∙ h.done_places;
      free_room = omega (arith, h.free_room, ap (λ v. vec_capacity v) fe);
    }

pub fewer : (s : Operations) (xs : List PendingOperation) (t : Moment) (op : OpName) (b : Begun) → OperationsStand [] s t → pending (past t) op ≡ Some b → xs ≡ others_than op s.pending.items → length xs < length s.pending.items
fewer s xs t op b h p pe =
    let less = without_shorter (pend (past t)) op b p in
    let left : xs ≡ map pending_of (without_begun (pend (past t)) op) = pe ∙ ap (filter (λ (x : PendingOperation). not (same_op x.op op))) h.pending_is ∙ pending_without (pend (past t)) op in
    omega (arith, less, ap length left, ap length h.pending_is, length-pending (pend (past t)), length-pending (without_begun (pend (past t)) op))
