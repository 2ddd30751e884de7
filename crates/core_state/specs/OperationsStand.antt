-- How the lists of operations match a history.
use Rattle.std.specs.Prelude.{◌≡◌, ◌⊎◌, ◌↔◌, ℕ, zero, suc, ◌+◌, ◌-◌, ◌^◌, ◌<◌, ◌≤◌, Bool, true, false, Option, Some, None, is_some, List, [], ◌∷◌, map, filter, length, slice_index_or, vec_capacity}
use Rattle.std.specs.List.{All}
use Rattle.aio_expire.specs.declared.deadlines.Deadline.{Deadline}
use Rattle.aio_word.specs.Views.{Stands}
use Rattle.sp_history.specs.declared.parts.Begun.{Begun}
use Rattle.sp_history.specs.declared.parts.OperationEnd.{OperationEnd}
use Rattle.sp_history.specs.declared.parts.Timer.{Timer}
use Rattle.sp_base.specs.declared.OpName.{OpName}
use Rattle.sp_history.specs.Lists.{has, same_op}
use Rattle.sp_history.specs.declared.entry.Entry.{Entry}
use Rattle.sp_history.specs.declared.setting.Setting.{Setting}
use Rattle.sp_history.specs.Past.{pend, uncollected, begins, timers, by_deadline}
use Rattle.sp_history.specs.Legal.{is_free}
use Rattle.sp_history.specs.Moments.{Moment, past}
use Rattle.core_state.specs.declared.operations.Operations.{Operations}
use Rattle.core_state.specs.declared.pending.PendingOperation.{PendingOperation}
use Rattle.core_state.specs.declared.operations.EndedOperation.{EndedOperation}
use Rattle.core_state.specs.Ends.{done_of, outcome_of}
use Rattle.core_state.specs.declared.outcome.Outcome.{Outcome}

-- no number occurs twice
abbrev pub Apart : List ℕ → Type 0
Apart [] = Unit {0}
Apart (x ∷ xs) = (has xs x ≡ false) × Apart xs

abbrev pub pending_of : Begun → PendingOperation
pending_of s = record { op = s.op; ctx = s.ctx }

abbrev pub deadline_of : Timer → Deadline
deadline_of d = record { at = d.due; op = d.op }

-- the deadlines that are left, in order
abbrev pub deadlines_of : List Timer → List Deadline
deadlines_of ds = map deadline_of (by_deadline ds)

-- the slot's generations are used up
abbrev pub IsWornOut : ℕ → Type 0
IsWornOut generation = generation ≡ 2 ^ 40 - 1

-- what is at the slot's place
abbrev pub done_at : List (Option EndedOperation) → ℕ → Option EndedOperation
done_at xs slot = slice_index_or xs slot None

-- it is the operation's
abbrev pub is_done_of : OpName → Option EndedOperation → Bool
is_done_of op None = false
is_done_of op (Some d) = same_op d.op op

-- the number of operations that ended and were not collected
abbrev pub done_count : Operations → ℕ
done_count s = length (filter is_some s.done.items)

-- an operation of the slot ended like this, and was not collected
abbrev pub HasDone : List OperationEnd → ℕ → EndedOperation → Type 0
HasDone es slot d = (e : OperationEnd) × Stands e es × (e.begun.op.slot ≡ slot) × (d ≡ done_of e)

-- exactly what ended and was not collected is at its slot's place
abbrev pub AreBySlot : List (Option EndedOperation) → List OperationEnd → Type 0
AreBySlot xs es = (slot : ℕ) (d : EndedOperation) → (done_at xs slot ≡ Some d) ↔ HasDone es slot d

-- The lists show these pending operations, the oldest first, and these that ended and were not collected, by slot. A
-- slot that is free by the history is on the list of free ones, is drawn, or is worn
pub record Holds (drawn : List ℕ) (s : Operations) (slots : ℕ) (ss : List Begun) (es : List OperationEnd) (ds : List Timer) (free : ℕ → Bool) (gens : ℕ → ℕ) : Type 0 where
  pub pending_is : s.pending.items ≡ map pending_of ss
  pub done_is : AreBySlot s.done.items es
  pub deadlines_are : s.deadlines.schedule ≡ record { slots = slots; entries = deadlines_of ds }
  pub free_is : All (λ i. (i < slots) × (free i ≡ true)) s.free.items
  pub drawn_is : All (λ i. (i < slots) × (free i ≡ true) × (has s.free.items i ≡ false)) drawn
  pub free_apart : Apart s.free.items
  pub every : (i : ℕ) → i < slots → free i ≡ true → (has s.free.items i ≡ true) ⊎ (has drawn i ≡ true) ⊎ IsWornOut (gens i)
  pub fits : length drawn + length s.free.items + length s.pending.items + done_count s ≤ slots
  pub pending_slots : s.pending.slots ≡ slots
  pub done_places : length s.done.items ≡ slots
  pub free_room : slots ≤ vec_capacity s.free

abbrev pub OperationsStand : List ℕ → Operations → Moment → Type 0
OperationsStand drawn s t = Holds drawn s t.z.slots (pend (past t)) (uncollected (past t)) (timers (past t)) (is_free (past t)) (begins (past t))

-- every slot that isn't worn has an operation that was not collected
abbrev pub AllTaken : Setting → List Entry → Type 0
AllTaken z past = (i : ℕ) → i < z.slots → (is_free past i ≡ false) ⊎ IsWornOut (begins past i)

-- the numbers below n, each once, the largest first
abbrev pub AreAllSlots : ℕ → List ℕ → Type 0
AreAllSlots zero xs = xs ≡ []
AreAllSlots (suc n) xs = (rest : List ℕ) × (xs ≡ n ∷ rest) × AreAllSlots n rest

-- it ended and was not collected, and this is its outcome
abbrev pub IsOutcomeOf : OperationEnd → OpName → List Entry → Outcome → Type 0
IsOutcomeOf e op before r = Stands e (uncollected before) × (e.begun.op ≡ op) × (r ≡ outcome_of e.begun e.ending)
