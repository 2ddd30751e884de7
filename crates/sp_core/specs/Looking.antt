-- What the core reads of its words, and how it looks at a context before an operation begins there.
use Rattle.std.specs.Prelude.{◌≡◌, ◌⊎◌, ◌||◌, ℕ, Bool, true, false, List, [], ◌∷◌, ◌++◌, Some}
use Rattle.sp_base.specs.declared.OpName.{OpName}
use Rattle.aio_word.specs.declared.phase.Phase.TheVariants as phase
use Rattle.aio_word.specs.declared.rule.ShownOperation as word
use Rattle.aio_word.specs.Results.{of_op}
use Rattle.aio_word.specs.Views.{Stands}
use Rattle.sp_history.specs.declared.entry.Ending.{Ending}
use Rattle.sp_history.specs.declared.entry.Entry.{Entry}
use Rattle.sp_history.specs.declared.entry.Entry.TheVariants.{End}
use Rattle.sp_history.specs.declared.parts.Begun.{Begun}
use Rattle.sp_history.specs.Lists.{same_op}
use Rattle.sp_history.specs.Past.{pending}
use Rattle.sp_history.specs.Moments.{Moment, past, also}
use Rattle.core_state.specs.declared.pending.PendingOperation.{PendingOperation}
use Rattle.core_state.specs.Pendings.{PendingView, in_bucket, bucket_of}
use Rattle.core_state.specs.PartSteps.{LeavesPending}
use Rattle.core_state.specs.declared.operations.Operations.{Operations}
use Rattle.sp_core.specs.declared.owner.Core.{Core}
use Rattle.core_state.specs.Reads.{Grows}

-- what the core has read of its words
abbrev pub reads_of : {P W : Type 0} → Core P W → List word.ShownOperation
reads_of c = c.op_words.seat.view.reads

-- the operation ends in these entries
abbrev pub ends_in : OpName → List Entry → Bool
ends_in op [] = false
ends_in op (End other ending ∷ es) = same_op other op || ends_in op es
ends_in op (_ ∷ es) = ends_in op es

-- each operation that was pending on the context ends in these entries, or the core has read since that it is pending
pub record HasLooked (c : ℕ) (past entries : List Entry) (old new : List word.ShownOperation) : Type 0 where
  pub more : List word.ShownOperation
  pub grew : new ≡ old ++ more
  pub each : (op : OpName) (s : Begun) → pending past op ≡ Some s → s.ctx ≡ c → (ends_in op entries ≡ true) ⊎ Stands (of_op op phase.Pending 0) more

-- ---- On the way

-- the pending operations in the bucket of the context
abbrev pub bucket_items : ℕ → PendingView → List PendingOperation
bucket_items c v = in_bucket v.slots (bucket_of v.slots c) v.items

-- an operation of this name and context is among these
abbrev pub IsLeft : OpName → ℕ → List PendingOperation → Type 0
IsLeft op c [] = ⊥
IsLeft op c (x ∷ xs) = ((x.op ≡ op) × (x.ctx ≡ c)) ⊎ IsLeft op c xs

-- the pending operations of the context except these were looked at
pub record LooksTo (left : List PendingOperation) (c : ℕ) (t u : Moment) (old new : List word.ShownOperation) : Type 0 where
  pub more : List word.ShownOperation
  pub grew : new ≡ old ++ more
  pub each : (op : OpName) (s : Begun) → pending (past t) op ≡ Some s → s.ctx ≡ c → (ends_in op u.turn ≡ true) ⊎ Stands (of_op op phase.Pending 0) more ⊎ IsLeft op c left

-- the operation was read as pending, if it is of the context
pub record ReadsPending (x : PendingOperation) (c : ℕ) (old new : List word.ShownOperation) : Type 0 where
  pub more : List word.ShownOperation
  pub grew : new ≡ old ++ more
  pub read : x.ctx ≡ c → Stands (of_op x.op phase.Pending 0) more

-- nothing has changed except what was read
abbrev pub StaysPending : PendingOperation → ℕ → Moment → Moment → Operations → Operations → List word.ShownOperation → List word.ShownOperation → Type 0
StaysPending x c t u before after old new = (u ≡ t) × (after.pending ≡ before.pending) × ReadsPending x c old new

-- the operation has ended
abbrev pub IsNoted : PendingOperation → Moment → Moment → Operations → Operations → List word.ShownOperation → List word.ShownOperation → Type 0
IsNoted x t u before after old new = LeavesPending x.op before after × Grows old new × ((ending : Ending) × (u ≡ also t (End x.op ending)))

abbrev pub FoundOf : PendingOperation → ℕ → Moment → Moment → Operations → Operations → List word.ShownOperation → List word.ShownOperation → Type 0
FoundOf x c t u before after old new = StaysPending x c t u before after old new ⊎ IsNoted x t u before after old new
