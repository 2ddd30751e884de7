-- How words and outcomes match the ends of a history.
use Rattle.std.specs.Prelude.{⊤, ◌≡◌, ℕ, ◌≤◌}
use Rattle.sp_base.specs.declared.OpName.{OpName}
use Rattle.sp_msg.specs.Views.{MessageView}
use Rattle.aio_word.specs.declared.phase.Phase.{Phase}
use Rattle.aio_word.specs.declared.phase.Phase.TheVariants as phase
use Rattle.aio_word.specs.declared.rule.ShownOperation as word
use Rattle.aio_word.specs.Results.{of_op}
use Rattle.sp_history.specs.declared.entry.RecordedMessage.{RecordedMessage}
use Rattle.sp_history.specs.declared.entry.RecordedAct.{RecordedAct}
use Rattle.sp_history.specs.declared.entry.RecordedAct.TheVariants.{Recv, Send}
use Rattle.sp_history.specs.declared.entry.Cause.{Cause}
use Rattle.sp_history.specs.declared.entry.Cause.TheVariants.{Cancelled, TimedOut, Closed, Superseded, SurveyOver}
use Rattle.sp_history.specs.declared.entry.Ending.{Ending}
use Rattle.sp_history.specs.declared.entry.Ending.TheVariants.{Won, Gone}
use Rattle.sp_history.specs.declared.entry.Completion.TheVariants as won
use Rattle.sp_history.specs.declared.parts.Begun.{Begun}
use Rattle.sp_history.specs.declared.parts.OperationEnd.{OperationEnd}
use Rattle.std.specs.Prelude.{Option, Some, None}
use Rattle.core_state.specs.declared.outcome.Outcome.{Outcome}
use Rattle.core_state.specs.declared.outcome.Outcome.TheVariants as out
use Rattle.core_state.specs.declared.operations.EndedOperation.{EndedOperation}

-- how the word of an operation shows that it is gone
abbrev pub phase_for : Cause → Phase
phase_for Cancelled = phase.Cancelled
phase_for TimedOut = phase.Expired
phase_for Closed = phase.Shut
phase_for Superseded = phase.Superseded
phase_for SurveyOver = phase.SurveyOver

-- what the core's seat has recorded of an end
abbrev pub end_of : OpName → Ending → word.ShownOperation
end_of op (Won r) = of_op op phase.Won 0
end_of op (Gone cause by) = of_op op (phase_for cause) by

abbrev pub decided : OpName × Ending → word.ShownOperation
decided e = end_of e.0 e.1

-- callers end operations for these causes
abbrev pub IsCallers : Cause → Type 0
IsCallers Cancelled = ⊤
IsCallers TimedOut = ⊤
IsCallers _ = ⊥

abbrev pub view_of : RecordedMessage → MessageView
view_of m = record { header = m.header; body = m.body }

-- the message that a send returns
abbrev pub back_of : RecordedAct → Option MessageView
back_of Recv = None
back_of (Send m) = Some (view_of m)

-- what is collected of an operation with this end
abbrev pub outcome_of : Begun → Ending → Outcome
outcome_of s (Won (won.Received m)) = out.Received (view_of m)
outcome_of s (Won won.Sent) = out.Sent
outcome_of s (Gone cause by) = out.Gone cause by (back_of s.act)

abbrev pub done_of : OperationEnd → EndedOperation
done_of e = record { op = e.begun.op; outcome = outcome_of e.begun e.ending }

-- how the close finds or makes an operation end: the socket ends it, or a caller has
abbrev pub IsCloseEnd : ℕ → Cause → ℕ → Type 0
IsCloseEnd callers Closed by = by ≡ 0
IsCloseEnd callers Cancelled by = (1 ≤ by) × (by ≤ callers)
IsCloseEnd callers TimedOut by = (1 ≤ by) × (by ≤ callers)
IsCloseEnd callers _ by = ⊥
