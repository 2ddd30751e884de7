-- What the calls of the parts do: the words, the lists of operations, the pipes and the counts.
use Rattle.sp_base.specs.declared.OpName.{OpName}
use Rattle.core_state.specs.OperationsStand.{IsOutcomeOf, IsWornOut, OperationsStand, done_count}
use Rattle.core_state.specs.OpWordsStand.{OpWordsStand, DecidedAs, IsNext}
use Rattle.core_state.specs.Ends.{outcome_of}
use Rattle.core_state.specs.Pipes.{PipesStand, IsPipeAt}
use Rattle.core_state.specs.Tallies.{Tallies}
use Rattle.core_state.specs.Wires.{IsUnused, numbers_of}
use Rattle.core_state.specs.declared.op_words.OpWords.{OpWords}
use Rattle.core_state.specs.declared.op_words.Decision.{Decision}
use Rattle.core_state.specs.declared.op_words.Decision.TheVariants as decision
use Rattle.core_state.specs.declared.pipes.Pipes.{Pipes}
use Rattle.core_state.specs.declared.pipes.PipePlace.{PipePlace as PipePlaceType}
use Rattle.core_state.specs.declared.outcome.Outcome.{Outcome}
use Rattle.core_state.specs.declared.operations.Operations.{Operations}
use Rattle.core_state.specs.declared.tally.Tally.{Tally}
use Rattle.sp_history.specs.Legal.{is_free, is_pending_on, is_uncollected}
use Rattle.sp_history.specs.Lists.{has, without}
use Rattle.sp_history.specs.Moments.{Lawful, Moment, also, past}
use Rattle.sp_history.specs.Past.{begins, ctxs, pending, up, ups}
use Rattle.sp_history.specs.declared.entry.RecordedAct.{RecordedAct}
use Rattle.sp_history.specs.declared.entry.Ending.{Ending}
use Rattle.sp_history.specs.declared.entry.Ending.TheVariants.{Gone, Won}
use Rattle.sp_history.specs.declared.entry.Cause.{Cause}
use Rattle.sp_history.specs.declared.entry.Completion.{Completion}
use Rattle.sp_history.specs.declared.entry.WireNumbers.{WireNumbers}
use Rattle.sp_history.specs.declared.entry.Entry.TheVariants.{Begin, End, Out, Took, Up}
use Rattle.sp_history.specs.declared.entry.Why.{Why}
use Rattle.sp_history.specs.declared.parts.Begun.{Begun}
use Rattle.sp_history.specs.declared.parts.OperationEnd.{OperationEnd}
use Rattle.sp_history.specs.Sends.{targets}
use Rattle.core_state.specs.Pendings.{others_than}
use Rattle.sp_proto.specs.Machines.{CanFlood}
use Rattle.sp_msg.specs.Views.{MessageView, WireView, wire_text}
use Rattle.std.specs.VecDeque.{deque_capacity}
use Rattle.std.specs.Prelude.{Bool, List, MatchOption, None, Option, Some, [], false, length, set, slice_index_or, true, ℕ, ◌++◌, ◌+◌, ◌<◌, ◌≤◌, ◌^◌, ◌∷◌, ◌≡◌, ◌≢◌}
use Rattle.sp_history.specs.declared.entry.Entry.TheVariants as entries
use Rattle.sp_history.specs.declared.entry.ContextChange.TheVariants as gate

-- ---- Words

-- the operation is pending at a moment for which the words stand
abbrev pub HasPending : OpWords → OpName → Type 0
HasPending d op = (t : Moment) × (s : Begun) × Lawful t × OpWordsStand d t × (pending (past t) op ≡ Some s)

-- this holds at each such moment
abbrev pub WherePending : OpWords → OpName → (Moment → Type 0) → Type 0
WherePending d op fact = (t : Moment) (s : Begun) → Lawful t → OpWordsStand d t → pending (past t) op ≡ Some s → fact t

-- how a caller ended the operation, or that it is still pending
abbrev pub LookedAs : Option Decision → OpName → Moment → OpWords → Type 0
LookedAs r op t d = MatchOption r (OpWordsStand d t) (λ x. (x ≢ decision.Won) × DecidedAs x op t d)

-- the name of the slot's next operation, or `None` where the slot is worn
abbrev pub NamesNext : Option OpName → ℕ → OpWords → Type 0
NamesNext r slot x =
    (t : Moment) → OpWordsStand x t → slot < t.z.slots → MatchOption r (IsWornOut (begins (past t) slot)) (λ op. (op.slot ≡ slot) × (op.generation ≡ begins (past t) slot + 1) × (op.generation < 2 ^ 40))

-- the operation's word has begun
abbrev pub BeginsWord : OpName → OpWords → OpWords → Type 0
BeginsWord op old new =
    (t : Moment) (c : ℕ) (act : RecordedAct) (deadline : Option ℕ) → Lawful t → OpWordsStand old t → IsNext t op → OpWordsStand new (also t (Begin op t.caller c act deadline))

-- ---- Lists of operations

-- the numbers of free slots and of operations that ended and were not collected are the same
abbrev pub KeepsLengths : Operations → Operations → Type 0
KeepsLengths old new = (length new.free.items ≡ length old.free.items) × (done_count new ≡ done_count old)

-- one more slot is free
abbrev pub HasOneMoreFree : Operations → Operations → Type 0
HasOneMoreFree old new = (length new.free.items ≡ length old.free.items + 1) × (done_count new ≡ done_count old)

-- one more operation ended and was not collected
abbrev pub HasOneMoreEnded : Operations → Operations → Type 0
HasOneMoreEnded old new = (length new.free.items ≡ length old.free.items) × (done_count new ≡ done_count old + 1)

-- the operation may begin in the slot that was drawn
abbrev pub MayStart : OpName → ℕ → Option ℕ → Operations → Type 0
MayStart op c deadline old =
    (t : Moment) × (act : RecordedAct) × OperationsStand (op.slot ∷ []) old t × Lawful (also t (Begin op t.caller c act deadline))

-- the operation is among the pending ones
abbrev pub StartsOp : OpName → ℕ → Option ℕ → Operations → Operations → Type 0
StartsOp op c deadline old new =
    (t : Moment) (act : RecordedAct) → OperationsStand (op.slot ∷ []) old t → Lawful (also t (Begin op t.caller c act deadline)) → OperationsStand [] new (also t (Begin op t.caller c act deadline))

-- the operation is among those that ended
abbrev pub FinishesOp : OpName → Outcome → Operations → Operations → Type 0
FinishesOp op r old new =
    (t : Moment) (s : Begun) (ending : Ending) → OperationsStand [] old t → Lawful t → pending (past t) op ≡ Some s → r ≡ outcome_of s ending → OperationsStand [] new (also t (End op ending))

-- a slot that is drawn is free
abbrev pub DrawsFree : Option ℕ → Operations → Operations → Type 0
DrawsFree r old new =
    (i : ℕ) → r ≡ Some i → (t : Moment) → OperationsStand [] old t → (i < t.z.slots) × (is_free (past t) i ≡ true) × OperationsStand (i ∷ []) new t

-- where a slot is drawn, one slot fewer is free
abbrev pub DrawsOne : Option ℕ → Operations → Operations → Type 0
DrawsOne r old new =
    (i : ℕ) → r ≡ Some i → (length new.free.items + 1 ≡ length old.free.items) × (done_count new ≡ done_count old)

-- the operation is no longer pending, and the others are
abbrev pub LeavesPending : OpName → Operations → Operations → Type 0
LeavesPending op old new = new.pending ≡ record old.pending { items = others_than op old.pending.items }

-- the operation ended and was not collected, or not
abbrev pub TellsEnded : Bool → OpName → Operations → Type 0
TellsEnded r op x = (t : Moment) → OperationsStand [] x t → is_uncollected (past t) op ≡ r

-- the operation ended and was not collected at a moment for which the lists stand
abbrev pub HasUncollected : OpName → Operations → Type 0
HasUncollected op x = (t : Moment) × Lawful t × OperationsStand [] x t × (is_uncollected (past t) op ≡ true)

-- an operation that is pending on the context, or none where there is none
abbrev pub FindsOn : Option OpName → ℕ → Operations → Type 0
FindsOn r c x =
    (t : Moment) → OperationsStand [] x t → Lawful t → MatchOption r (is_pending_on (past t) c ≡ false) (λ op. (s : Begun) × (pending (past t) op ≡ Some s) × (s.ctx ≡ c))

-- the operation was taken out, with its outcome
abbrev pub TakesOut : Outcome → OpName → Operations → Operations → Type 0
TakesOut r op old new =
    (t : Moment) (k : ℕ) → Lawful t → OperationsStand [] old t → OperationsStand [] new (also t (Took op k)) × ((e : OperationEnd) × IsOutcomeOf e op (past t) r)

-- ---- Pipes

-- this holds at each moment that the pipes stand for, for the pipe at this place
abbrev pub WherePipe : {W : Type 0} → (W → WireView) → Pipes W → ℕ → (Moment → ℕ → Type 0) → Type 0
WherePipe shown l i fact = (t : Moment) (p : ℕ) → Lawful t → PipesStand shown l t → IsPipeAt l i p → fact t p

-- the unused wire is now that of a pipe that is up, with this receive limit
abbrev pub AddsPipe : {W : Type 0} → (W → WireView) → ℕ → ℕ → W → Pipes W → Pipes W → Type 0
AddsPipe shown p limit w old new =
    (t : Moment) (place : ℕ) → Lawful t → PipesStand shown old t → p ≡ ups (past t) + 1 → IsUnused (shown w) → PipesStand shown new (also t (Up p place limit (record { numbers = numbers_of (shown w).name })))

-- the message was put on the pipe at this place
abbrev pub PutsOut : {W : Type 0} → (W → WireView) → ℕ → MessageView → Pipes W → Pipes W → Type 0
PutsOut shown i m old new =
    (t : Moment) (p : ℕ) (b : List ℕ) → Lawful t → PipesStand shown old t → IsPipeAt old i p → wire_text m ≡ b → PipesStand shown new (also t (Out p b))

-- the pipe at this place has left it empty, and is now the last of those that are down
pub record EmptiesPlace {W : Type 0} (i : ℕ) (why : Why) (old new : Pipes W) : Type 0 where
  pub places : (x : PipePlaceType W) → x ≡ slice_index_or old.places.items i x → new.places.items ≡ set old.places.items i (record x { wire = None })
  pub down : (x : PipePlaceType W) (w : W) → x ≡ slice_index_or old.places.items i x → x.wire ≡ Some w → new.down.items ≡ old.down.items ++ record { id = x.id; why = why; wire = w } ∷ []
  pub count : new.count + 1 ≡ old.count
  pub room : deque_capacity new.down ≡ deque_capacity old.down
  pub busy : new.busy ≡ old.busy

-- the place of the pipe, or none where it is not up
abbrev pub FindsPipe : {W : Type 0} → (W → WireView) → Option ℕ → ℕ → Pipes W → Type 0
FindsPipe shown r p x =
    MatchOption r ((t : Moment) → Lawful t → PipesStand shown x t → has (up (past t)) p ≡ false) (λ i. IsPipeAt x i p)

-- it is the first of these rising numbers above the other one
pub record IsFirstAbove (p q : ℕ) (us : List ℕ) : Type 0 where
  pub above : p < q
  pub there : has us q ≡ true
  pub first : (r : ℕ) → has us r ≡ true → p < r → q ≤ r

-- none of these numbers is above this one
abbrev pub NoneAbove : ℕ → List ℕ → Type 0
NoneAbove p us = (q : ℕ) → has us q ≡ true → q ≤ p

-- the place and the number of the first pipe that is up above this number, or none where there is none
abbrev pub FindsAbove : {W : Type 0} → (W → WireView) → Option (ℕ × ℕ) → ℕ → Pipes W → Type 0
FindsAbove shown r p x =
    (t : Moment) → Lawful t → PipesStand shown x t → MatchOption r (NoneAbove p (up (past t))) (λ f. IsPipeAt x f.0 f.1 × IsFirstAbove p f.1 (up (past t)))

-- no place before this one has a number above
abbrev pub ArePassed : {W : Type 0} → (W → WireView) → ℕ → ℕ → Pipes W → Type 0
ArePassed {W = W} shown i p l =
    (t : Moment) → PipesStand shown l t → (j : ℕ) (x : PipePlaceType W) → j < i → x ≡ slice_index_or l.places.items j x → x.id ≤ p

-- ---- Counts

-- one more pipe has come up
abbrev pub CountsUp : Tally → Tally → Type 0
CountsUp old new =
    (t : Moment) (p place limit : ℕ) (name : WireNumbers) → Tallies old t → Tallies new (also t (Up p place limit name))

-- one more operation has begun
abbrev pub CountsBegun : Tally → Tally → Type 0
CountsBegun old new =
    (t : Moment) (op : OpName) (k c : ℕ) (act : RecordedAct) (deadline : Option ℕ) → Tallies old t → Tallies new (also t (Begin op k c act deadline))

-- one more operation was won
abbrev pub CountsWon : Tally → Tally → Type 0
CountsWon old new =
    (t : Moment) (op : OpName) (r : Completion) → Tallies old t → Tallies new (also t (End op (Won r)))

-- one more operation ended without success
abbrev pub CountsGone : Tally → Tally → Type 0
CountsGone old new =
    (t : Moment) (op : OpName) (cause : Cause) (by : ℕ) → Tallies old t → Tallies new (also t (End op (Gone cause by)))

-- one context fewer is open
abbrev pub CountsShut : Tally → Tally → Type 0
CountsShut old new =
    (t : Moment) (c : ℕ) → length (without (ctxs (past t)) c) + 1 ≡ length (ctxs (past t)) → Tallies old t → Tallies new (also t (entries.Ctx c gate.Shut))

-- the moment has come, and is no earlier than the last tick
abbrev pub CountsTick : ℕ → Tally → Tally → Type 0
CountsTick at old new =
    (t : Moment) (due : List OpName) → old.latest ≤ at → Tallies old t → Tallies new (also t (entries.Tick at due))

-- ---- Machines

-- this is the copy of the send for the pipe
abbrev pub CopiesFor : {P : Type 0} → (P → Moment → Type 0) → MessageView → P → P → OpName → ℕ → Type 0
CopiesFor ties r m n op p =
    (t : Moment) (s : Begun) (b : List ℕ) → Lawful (also t (Out p b)) → ties m t → CanFlood t op s b → has (targets t.z (past t) s) p ≡ true → (wire_text r ≡ b) × ties n (also t (Out p b))
