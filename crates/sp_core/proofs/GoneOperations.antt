-- The core goes on from a moment to that at which an operation, whose word has its end already, ended without success.
use Rattle.std.proofs.Common.{arith, ◌≡◌, ◌≢◌, ◌<◌, sym, subst, [], Some, ℕ}
use Rattle.sp_base.specs.declared.OpName.{OpName}
use Rattle.sp_msg.specs.Views.{WireView}
use Rattle.sp_history.specs.declared.entry.Cause.{Cause}
use Rattle.sp_history.specs.declared.entry.Cause.TheVariants.{Closed}
use Rattle.sp_history.specs.declared.entry.Ending.TheVariants.{Gone}
use Rattle.sp_history.specs.declared.entry.Entry.TheVariants.{End}
use Rattle.sp_history.specs.declared.parts.Begun.{Begun}
use Rattle.sp_history.specs.Legal.{MayGo}
use Rattle.sp_history.specs.Past.{pending}
use Rattle.sp_history.specs.Moments.{Moment, past, also}
use Rattle.sp_core.specs.declared.owner.Core.{Core}
use Rattle.core_state.specs.declared.op_words.Decision.TheVariants as decision
use Rattle.core_state.specs.declared.op_words.OpWords.{OpWords}
use Rattle.core_state.specs.OpWordsStand.{DecidedAs, OpWordsStand}
use Rattle.core_state.specs.Ends.{IsCloseEnd}
use Rattle.sp_core.specs.Owning.{Owns}
use Rattle.sp_core.specs.Closing.{ClosesAt}
use Rattle.sp_core.specs.NoteSteps.{NotesEnd}
use Rattle.sp_core.proofs.Closings.{end_lawful, ends_one}
use Rattle.sp_core.proofs.MomentSteps.{ended, may_end, callers_end, callers_open}

module _ {P W : Type 0} (ties : P → Moment → Type 0) (room left : P → ℕ) (shown : W → WireView) (c d : Core P W) (w : OpWords) (t : Moment) (op : OpName) (s : Begun) (cause : Cause) (by : ℕ) where
  -- at a calm moment: less is left to be done
  pub owns_gone : Owns ties room shown [] c t → pending (past t) op ≡ Some s → MayGo t.z (past t) s cause by → cause ≢ Closed → OpWordsStand w (also t (End op (Gone cause by))) → NotesEnd ties room left op cause by (record c { op_words = w }) d → Owns ties room shown [] d (also t (End op (Gone cause by))) × (left d.proto < left c.proto)
  owns_gone g p m n h k =
      let a = k.ended t s g.lawful (may_end t op s (Gone cause by) g.lawful g.calm p m) g.proto g.operations p in
      let words = subst (λ (x : OpWords). OpWordsStand x (also t (End op (Gone cause by)))) (sym k.op_words) h in
      (ended ties room shown c d t op s (Gone cause by) g p m n a.proto words a.operations k.pipes (k.tally t g.tally) k.closed (a.has_room (omega (arith, g.room_is))), a.less)

  -- where a caller has ended it
  pub owns_decided : Owns ties room shown [] c t → pending (past t) op ≡ Some s → DecidedAs (decision.Gone cause by) op t w → NotesEnd ties room left op cause by (record c { op_words = w }) d → Owns ties room shown [] d (also t (End op (Gone cause by))) × (left d.proto < left c.proto)
  owns_decided g p h k = owns_gone g p (callers_end t s cause by h.0 h.1 h.2) (callers_open cause h.0) h.3 k

  -- within a close
  pub closes_gone : ClosesAt ties room shown c t → pending (past t) op ≡ Some s → IsCloseEnd t.z.callers cause by → OpWordsStand w (also t (End op (Gone cause by))) → NotesEnd ties room left op cause by (record c { op_words = w }) d → ClosesAt ties room shown d (also t (End op (Gone cause by)))
  closes_gone g p m h k =
      let a = k.ended t s g.lawful (end_lawful ties room shown c t op s cause by g p m) g.proto g.operations p in
      let words = subst (λ (x : OpWords). OpWordsStand x (also t (End op (Gone cause by)))) (sym k.op_words) h in
      ends_one ties room shown c d t op s cause by g p m a.proto words a.operations k.pipes (k.tally t g.tally) (a.has_room g.room_is)
