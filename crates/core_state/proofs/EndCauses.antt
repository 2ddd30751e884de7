-- The causes for which operations end at a close, and with their requests.
use Rattle.std.proofs.Common.{◌≡◌, ◌≢◌, refl, ℕ, ◌≤◌, true, inl, inr}
use Rattle.aio_word.specs.declared.phase.Phase.{Phase}
use Rattle.aio_word.specs.Word.{is_core_end}
use Rattle.sp_base.specs.declared.OpName.{OpName}
use Rattle.sp_history.specs.declared.entry.Cause.{Cause}
use Rattle.sp_history.specs.declared.entry.Cause.TheVariants.{Cancelled, TimedOut, Closed, Superseded, SurveyOver}
use Rattle.sp_history.specs.Moments.{Moment}
use Rattle.sp_proto.specs.Machines.{IsFinish}
use Rattle.core_state.specs.declared.op_words.OpWords.{OpWords}
use Rattle.core_state.specs.declared.op_words.Decision.{Decision}
use Rattle.core_state.specs.declared.op_words.Decision.TheVariants as decision
use Rattle.core_state.specs.Ends.{IsCallers, IsCloseEnd, phase_for}
use Rattle.core_state.specs.OpWordsStand.{DecidedAs, FinishedAs, ShutAs}

pub callers_close : (callers : ℕ) (cause : Cause) (by : ℕ) → IsCallers cause → 1 ≤ by → by ≤ callers → IsCloseEnd callers cause by
callers_close callers Cancelled by h a b = (a, b)
callers_close callers TimedOut by h a b = (a, b)
callers_close callers Closed by h a b = absurd h
callers_close callers Superseded by h a b = absurd h
callers_close callers SurveyOver by h a b = absurd h

-- a caller has ended it
pub shut_found : (made : Decision) (op : OpName) (t : Moment) (d : OpWords) → made ≢ decision.Won → DecidedAs made op t d → ShutAs made op t d
shut_found decision.Won op t d n h = n refl
shut_found (decision.Gone cause by) op t d n h = (callers_close t.z.callers cause by h.0 h.1 h.2, h.3)

pub core_end : (cause : Cause) (p : Phase) → p ≡ phase_for cause → IsFinish cause → is_core_end p ≡ true
core_end cause p e (inl h) = rw (e, h) refl
core_end cause p e (inr h) = rw (e, h) refl

pub finish_found : (why : Cause) (made : Decision) (op : OpName) (t : Moment) (d : OpWords) → made ≢ decision.Won → DecidedAs made op t d → FinishedAs why made op t d
finish_found why decision.Won op t d n h = n refl
finish_found why (decision.Gone cause by) op t d n h = (inr (h.0, h.1, h.2), h.3)
