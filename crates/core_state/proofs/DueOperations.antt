-- The operations that are due at a tick.
use Rattle.std.proofs.Common.{◌≡◌, refl, ap, ◌∙◌, List, [], ◌∷◌, ◌++◌, ℕ, ◌<◌, Bool, true, false, cond}
use Rattle.std.specs.Prelude.{map, filter, not}
use Rattle.std.proofs.lemmas.List.Elements.{All-nil}
use Rattle.aio_expire.specs.declared.deadlines.Deadline.{Deadline}
use Rattle.aio_expire.specs.Schedule.{Schedule, Turning, due_of, later_than, op_of}
use Rattle.sp_base.specs.declared.OpName.{OpName}
use Rattle.sp_history.specs.declared.parts.Timer.{Timer}
use Rattle.sp_history.specs.declared.entry.Entry.TheVariants.{Tick}
use Rattle.sp_history.specs.Past.{is_due, by_deadline, timers, due_at}
use Rattle.sp_history.specs.Lists.{has}
use Rattle.sp_history.specs.Legal.{is_free}
use Rattle.sp_history.specs.Moments.{Moment, past, also}
use Rattle.core_state.specs.declared.operations.Operations.{Operations}
use Rattle.core_state.specs.OperationsStand.{OperationsStand, deadline_of, deadlines_of}
use Rattle.core_state.proofs.Timing.{filter_by_deadline}

-- ---- Deadlines

filter_map : (p : Deadline → Bool) (ts : List Timer) → filter p (map deadline_of ts) ≡ map deadline_of (filter (λ d. p (deadline_of d)) ts)
filter_map p [] = refl
filter_map p (d ∷ ts) = go (p (deadline_of d)) (filter_map p ts)
  where
    go : (b : Bool) → filter p (map deadline_of ts) ≡ map deadline_of (filter (λ d. p (deadline_of d)) ts)
        → cond b (deadline_of d ∷ filter p (map deadline_of ts)) (filter p (map deadline_of ts)) ≡ map deadline_of (cond b (d ∷ filter (λ d. p (deadline_of d)) ts) (filter (λ d. p (deadline_of d)) ts))
    go true again = ap (λ (xs : List Deadline). deadline_of d ∷ xs) again
    go false again = again

names_of : (ts : List Timer) → map op_of (map deadline_of ts) ≡ map (λ d. d.op) ts
names_of [] = refl
names_of (d ∷ ts) = ap (λ (xs : List OpName). d.op ∷ xs) (names_of ts)

pub names_due : (ts : List Timer) (at : ℕ) → map op_of (due_of at (deadlines_of ts)) ≡ map (λ d. d.op) (by_deadline (filter (is_due at) ts))
names_due ts at =
    ap (map op_of) (filter_map (λ d. is_due at (record { due = d.at; op = d.op })) (by_deadline ts) ∙ ap (map deadline_of) (filter_by_deadline (is_due at) ts)) ∙ names_of (by_deadline (filter (is_due at) ts))

pub left_due : (ts : List Timer) (at : ℕ) → later_than at (deadlines_of ts) ≡ deadlines_of (filter (λ d. not (is_due at d)) ts)
left_due ts at = filter_map (λ d. not (is_due at (record { due = d.at; op = d.op }))) (by_deadline ts) ∙ ap (map deadline_of) (filter_by_deadline (λ d. not (is_due at d)) ts)

-- ---- the lists of operations

pub due_names : (s : Operations) (t : Moment) (at : ℕ) (old new : List OpName) → OperationsStand [] s t → new ≡ old ++ map op_of (due_of at s.deadlines.schedule.entries) → new ≡ old ++ due_at (past t) at
due_names s t at old new h n = n ∙ ap (λ (v : Schedule). old ++ map op_of (due_of at v.entries)) h.deadlines_are ∙ ap (λ (xs : List OpName). old ++ xs) (names_due (timers (past t)) at)

pub operations_ticked : (s : Operations) (d : Turning) (t : Moment) (at : ℕ) (due : List OpName) → OperationsStand [] s t → d.schedule ≡ record s.deadlines.schedule { entries = later_than at s.deadlines.schedule.entries } → OperationsStand [] (record s { deadlines = d }) (also t (Tick at due))
operations_ticked s d t at due h e =
    record {
      pending_is = h.pending_is;
      done_is = h.done_is;
      deadlines_are = e ∙ ap (λ (v : Schedule). record v { entries = later_than at v.entries }) h.deadlines_are ∙ ap (λ (xs : List Deadline). record { slots = t.z.slots; entries = xs }) (left_due (timers (past t)) at);
      free_is = h.free_is;
      drawn_is = All-nil (λ i. (i < t.z.slots) × (is_free (Tick at due ∷ past t) i ≡ true) × (has s.free.items i ≡ false));
      free_apart = h.free_apart;
      every = h.every;
      fits = h.fits;
      pending_slots = h.pending_slots;
      done_places = h.done_places;
      free_room = h.free_room;
    }
