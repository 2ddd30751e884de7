use Rattle.std.proofs.Common.{◌≡◌, ap, sym, subst, ◌∙◌, List, [], ℕ, true, length, Option}
use Rattle.std.specs.Prelude.{filter, is_some}
use Rattle.sp_history.specs.declared.entry.Entry.{Entry}
use Rattle.sp_history.specs.Past.{pend, uncollected, begins, timers}
use Rattle.sp_history.specs.Legal.{is_free}
use Rattle.sp_history.specs.Moments.{Moment, past}
use Rattle.core_state.specs.declared.operations.Operations.{Operations}
use Rattle.core_state.specs.declared.operations.EndedOperation.{EndedOperation}
use Rattle.core_state.specs.OperationsStand.{Holds}
use Rattle.core_state.proofs.OperationSteps.{every_slot, made}
use Rattle.core_state.proofs.Outcomes.{none_counted}
use Rattle.core_state.proofs.operations.Operations.with_slots.Goals as goal

at_start : (s : Operations) (slots : ℕ) (t : Moment) → past t ≡ [] → t.z.slots ≡ slots → Holds [] s slots [] [] [] (λ i. true) (λ i. 0) → Holds [] s t.z.slots (pend (past t)) (uncollected (past t)) (timers (past t)) (is_free (past t)) (begins (past t))
at_start s slots t none n h =
    subst (λ (before : List Entry). Holds [] s t.z.slots (pend before) (uncollected before) (timers before) (is_free before) (begins before)) (sym none) (subst (λ (k : ℕ). Holds [] s k [] [] [] (λ i. true) (λ i. 0)) (sym n) h)

pub returns-clause-holds : goal.returns-clause-holds
returns-clause-holds c =
    λ t none n.
    at_start _ c.args.slots t none n (made _ c.args.slots c.in_ok-new.ensures c.in_ok-no_outcomes.ensures (ap (λ v. v.schedule) c.in_ok-new-2.ensures) (every_slot c.args.slots _ c.in_ok-all_slots.ensures.slots) c.in_ok-all_slots.ensures.room)

pub returns-clause-all : goal.returns-clause-all
returns-clause-all c = ((every_slot c.args.slots _ c.in_ok-all_slots.ensures.slots).count, ap (λ (xs : List (Option EndedOperation)). length (filter is_some xs)) c.in_ok-no_outcomes.ensures ∙ none_counted c.args.slots)
