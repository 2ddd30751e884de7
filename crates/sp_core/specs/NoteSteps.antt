-- What the core notes: a pipe is full or down, an operation has ended without success. The machine and the counts are
-- told.
use Rattle.std.specs.Prelude.{ℕ, List, [], length, Some, true, ◌≡◌, ◌+◌, ◌<◌, ◌≤◌}
use Rattle.sp_base.specs.declared.OpName.{OpName}
use Rattle.sp_history.specs.declared.entry.Cause.{Cause}
use Rattle.sp_history.specs.declared.entry.Ending.TheVariants.{Gone}
use Rattle.sp_history.specs.declared.entry.Entry.{Entry}
use Rattle.sp_history.specs.declared.entry.Entry.TheVariants.{Down, End, Full}
use Rattle.sp_history.specs.declared.entry.Why.{Why}
use Rattle.sp_history.specs.declared.parts.Begun.{Begun}
use Rattle.sp_history.specs.declared.parts.LiveRequest.{LiveRequest}
use Rattle.sp_history.specs.Setting.{floods}
use Rattle.sp_history.specs.Past.{pending}
use Rattle.sp_history.specs.Moments.{Lawful, Moment, also, past}
use Rattle.sp_proto.specs.Machines.{CanAgain, CanSend, Takes}
use Rattle.sp_core.specs.declared.owner.Core.{Core}
use Rattle.core_state.specs.OperationsStand.{OperationsStand, done_count}
use Rattle.core_state.specs.PartSteps.{LeavesPending}
use Rattle.core_state.specs.Tallies.{Tallies}

-- the machine and the counts have recorded each such entry of the pipe, and nothing else has changed
pub record NotesPipe {P W A : Type 0} (ties : P → Moment → Type 0) (room left : P → ℕ) (copies : P → OpName → ℕ) (p : ℕ) (entry : A → Entry) (old new : Core P W) : Type 0 where
  pub proto : (t : Moment) (x : A) → Takes (ties old.proto) (ties new.proto) t (entry x)
  pub tally : (t : Moment) (x : A) → Tallies old.tally t → Tallies new.tally (also t (entry x))
  pub op_words : new.op_words ≡ old.op_words
  pub operations : new.operations ≡ old.operations
  pub pipes : new.pipes ≡ old.pipes
  pub closed : new.closed ≡ old.closed
  -- not less room, and no fewer copies
  pub has_room : room old.proto ≤ room new.proto
  pub has_copies : (op : OpName) → copies old.proto op ≤ copies new.proto op
  -- less is left to be done where the pipe was to take a send, or a request that goes out again
  pub less_to_send : (t : Moment) (op : OpName) (s : Begun) (b : List ℕ) → Lawful t → ties old.proto t → CanSend t op p s b → left new.proto < left old.proto
  pub less_again : (t : Moment) (c : ℕ) (r : LiveRequest) → Lawful t → ties old.proto t → CanAgain t c p r → left new.proto < left old.proto
  -- no more is where sends go to many pipes
  pub no_more : (t : Moment) → Lawful t → ties old.proto t → floods t.z.role ≡ true → left new.proto ≤ left old.proto

-- the pipe is down, for any cause
abbrev pub NotesDown : {P W : Type 0} → (P → Moment → Type 0) → (P → ℕ) → (P → ℕ) → (P → OpName → ℕ) → ℕ → Core P W → Core P W → Type 0
NotesDown ties room left copies p old new = NotesPipe ties room left copies p (λ (why : Why). Down p why) old new

-- the pipe is full
abbrev pub NotesFull : {P W : Type 0} → (P → Moment → Type 0) → (P → ℕ) → (P → ℕ) → (P → OpName → ℕ) → ℕ → Core P W → Core P W → Type 0
NotesFull ties room left copies p old new = NotesPipe ties room left copies p (λ (_ : Unit {0}). Full p) old new

-- the operation is pending
abbrev pub MayNoteEnd : {P W : Type 0} → OpName → Core P W → Type 0
MayNoteEnd op old = (t : Moment) × (s : Begun) × OperationsStand [] old.operations t × Lawful t × (pending (past t) op ≡ Some s)

-- the machine and the operations stand for this moment, and less is left to be done
pub record GoesOnWithout {P W : Type 0} (ties : P → Moment → Type 0) (room left : P → ℕ) (old new : Core P W) (u : Moment) : Type 0 where
  pub proto : ties new.proto u
  pub operations : OperationsStand [] new.operations u
  pub has_room : length old.operations.free.items + done_count old.operations ≤ room old.proto → length new.operations.free.items + done_count new.operations ≤ room new.proto
  pub less : left new.proto < left old.proto

-- the machine, the operations and the counts have recorded this end, and nothing else has changed
pub record NotesEnd {P W : Type 0} (ties : P → Moment → Type 0) (room left : P → ℕ) (op : OpName) (cause : Cause) (by : ℕ) (old new : Core P W) : Type 0 where
  pub ended : (t : Moment) (s : Begun) → Lawful t → Lawful (also t (End op (Gone cause by))) → ties old.proto t → OperationsStand [] old.operations t → pending (past t) op ≡ Some s → GoesOnWithout ties room left old new (also t (End op (Gone cause by)))
  pub tally : (t : Moment) → Tallies old.tally t → Tallies new.tally (also t (End op (Gone cause by)))
  pub op_words : new.op_words ≡ old.op_words
  pub pipes : new.pipes ≡ old.pipes
  pub closed : new.closed ≡ old.closed
  pub leaves : LeavesPending op old.operations new.operations
  pub fewer : length new.operations.pending.items < length old.operations.pending.items
