-- What contracts see of a socket with one caller.
use Rattle.std.specs.Prelude.{◌≡◌, ◌≢◌, ◌↔◌, ℕ, ⊤, false, List, [], ◌∷◌, ◌++◌, Option, Some, None}
use Rattle.turn_lock.specs.declared.turn.Turn.{Turn}
use Rattle.sp_base.specs.declared.role.Role.TheVariants.{Pull}
use Rattle.aio_word.specs.declared.phase.Phase.{Phase}
use Rattle.aio_word.specs.declared.phase.Phase.TheVariants as phase
use Rattle.aio_word.specs.declared.results.Polled.{Polled}
use Rattle.aio_word.specs.declared.results.Raced.{Raced}
use Rattle.aio_word.specs.declared.rule.ShownOperation as word
use Rattle.aio_word.specs.Views.{Stands}
use Rattle.sp_base.specs.Wires.{WireView}
use Rattle.sp_history.specs.declared.entry.Cause.TheVariants.{Cancelled}
use Rattle.sp_history.specs.declared.entry.Ending.TheVariants.{Gone}
use Rattle.sp_history.specs.declared.entry.Entry.{Entry}
use Rattle.sp_history.specs.declared.setting.Setting.{Setting}
use Rattle.sp_history.specs.Options.{usual}
use Rattle.sp_history.specs.Past.{past_of, ends, pending, now}
use Rattle.sp_history.specs.declared.parts.Begun.{Begun}
use Rattle.sp_history.specs.Legal.{Legal}
use Rattle.sp_history.specs.Settled.{Settled}
use Rattle.sp_core.specs.declared.label.CoreLabel.{CoreLabel}
use Rattle.core_state.specs.declared.pipes.DownPipe.{DownPipe}
use Rattle.sp_core.specs.declared.calls.collect.Collected.{Collected}
use Rattle.sp_core.specs.declared.calls.collect.Collected.TheVariants as collected
use Rattle.sp_core.specs.Collecting.{DueBy, IsOpen}
use Rattle.sp_core.specs.Parts.{HasWires}
use Rattle.sp_base.specs.declared.OpName.{OpName}
use Rattle.sp_socket.specs.Due.{AllWereDue, op_of}
use Rattle.sp_socket.specs.Expiring.{WinsAndReads, PolledAs, RacedAs}
use Rattle.sp_socket.specs.Finishing.{AreEndsBy, AreEndsRead}
use Rattle.sp_socket.specs.Passes.{SocketName, PassView, ListView, IsOf}

-- the socket's setting, its history, and what its caller has ended and read without a turn
pub record SingleView : Type 0 where
  pub setting : Setting
  pub seen : List (Turn Entry)
  pub wins : List word.ShownOperation
  pub reads : List word.ShownOperation

-- with this operation, where it was cancelled
abbrev pub with_cancelled : Phase → OpName → List OpName → List OpName
with_cancelled phase.Cancelled op ops = op ∷ ops
with_cancelled _ op ops = ops

-- those of these that were cancelled
abbrev pub cancelled_in : List word.ShownOperation → List OpName
cancelled_in [] = []
cancelled_in (e ∷ es) = with_cancelled e.phase (op_of e) (cancelled_in es)

-- the operations that its caller has cancelled
abbrev pub cancelled_of : SingleView → List OpName
cancelled_of s = cancelled_in s.wins

-- its history is legal and settled
pub record IsSound (s : SingleView) : Type 0 where
  pub legal : Legal s.setting s.seen
  pub settled : Settled s.setting s.seen

-- the moment is that of the history
abbrev pub IsNow : ℕ → SingleView → Type 0
IsNow t s = t ≡ now (past_of s.seen)

-- the setting of a pass; a pass of no socket has none, and then this is any
abbrev pub setting_in : Option CoreLabel → Setting
setting_in None = record { role = Pull; raw = false; options = usual Pull 0; slots = 0; callers = 0 }
setting_in (Some label) = label.setting

abbrev pub single_of : PassView → SingleView
single_of p = record { setting = setting_in p.label; seen = p.seen; wins = p.wins; reads = p.reads }

-- it has no turn yet, and this setting
abbrev pub IsNewSingle : Setting → SingleView → Type 0
IsNewSingle z s = (s.seen ≡ []) × (s.setting ≡ z) × (s.wins ≡ []) × (s.reads ≡ [])

-- the pass is the socket's only one, it is out, and all turns are its own
pub record IsSingle (s : SocketName) (l : ListView) (p : PassView) : Type 0 where
  pub own : IsOf s p
  pub one : s.words.callers ≡ 1
  pub out : l.items ≡ []
  pub callers : l.callers ≡ 1
  pub lock : l.lock ≡ s.lock
  pub number : p.number ≡ 1
  pub mine : p.mine ≡ p.seen
  pub legal : Legal (setting_in p.label) p.seen
  pub settled : Settled (setting_in p.label) p.seen

-- the history has one more turn, the caller's, of which `says` holds; it is legal and settled, and nothing was cancelled
pub record TookOne (says : Setting → List (Turn Entry) → Turn Entry → Type 0) (before after : SingleView) : Type 0 where
  pub turn : Turn Entry
  pub setting : after.setting ≡ before.setting
  pub seen : after.seen ≡ before.seen ++ turn ∷ []
  pub number : turn.number ≡ 1
  pub legal : Legal after.setting after.seen
  pub settled : Settled after.setting after.seen
  pub said : says before.setting before.seen turn
  pub cancelled : cancelled_of after ≡ cancelled_of before

-- the caller's operations that are not collected stay so
abbrev pub KeepsOpen : SingleView → SingleView → Type 0
KeepsOpen before after = (op : OpName) → IsOpen 1 op before.seen → IsOpen 1 op after.seen

-- where it has not ended it stays open
abbrev pub StaysOpen : Collected → OpName → SingleView → Type 0
StaysOpen (collected.NotYet o) op s = IsOpen 1 op s.seen
StaysOpen (collected.Ended outcome) op s = ⊤

-- every other operation that is open stays so, and this one too where it has not ended
abbrev pub KeepsAllBut : Collected → OpName → SingleView → SingleView → Type 0
KeepsAllBut (collected.NotYet o) op before after = KeepsOpen before after
KeepsAllBut (collected.Ended outcome) op before after = (other : OpName) → op ≢ other → IsOpen 1 other before.seen → IsOpen 1 other after.seen

-- where it has not ended it is pending
abbrev pub StaysPending : Collected → OpName → SingleView → Type 0
StaysPending (collected.NotYet o) op s = (b : Begun) × (pending (past_of s.seen) op ≡ Some b)
StaysPending (collected.Ended outcome) op s = ⊤

-- where the socket is open the turn begins with the tick
abbrev pub Ticks : List (Turn Entry) → Turn Entry → ℕ → Type 0
Ticks h t now = (due : List OpName) × DueBy h t now [] due

-- ---- Calls without a turn

-- the same setting and history
pub record IsStill (before after : SingleView) : Type 0 where
  pub setting : after.setting ≡ before.setting
  pub seen : after.seen ≡ before.seen

abbrev pub known_of : SingleView → WinsAndReads
known_of s = (s.wins, s.reads)

-- the caller tried to cancel the operation
abbrev pub CancelsOne : Raced → OpName → SingleView → SingleView → Type 0
CancelsOne r op before after = RacedAs phase.Cancelled r 1 before.setting.slots op (known_of before) (known_of after)

-- the caller looked at the operation
abbrev pub LooksAt : Polled → OpName → SingleView → SingleView → Type 0
LooksAt r op before after = PolledAs r 1 before.setting.slots op (known_of before) (known_of after)

-- ---- The end

-- what was cancelled is these
abbrev pub AreCancelled : List OpName → List Entry → Type 0
AreCancelled ops past = (op : OpName) → Stands op ops ↔ ((by : ℕ) × Stands (op, Gone Cancelled by) (ends past))

-- no operation was cancelled
abbrev pub AreUncancelled : List Entry → Type 0
AreUncancelled past = (op : OpName) (by : ℕ) → Stands (op, Gone Cancelled by) (ends past) → ⊥

-- what is left of a finished socket: its wires, and the record of its history. What its caller has ended and read without
-- a turn stands there, what was cancelled is what the caller cancelled, and each operation that timed out was due
pub record FinishedAs {W : Type 0} (shown : W → WireView) (s : SingleView) (wires : List (DownPipe W)) (record_ : List (Turn Entry)) : Type 0 where
  pub whole : record_ ≡ s.seen
  pub wires_are : HasWires shown wires s.setting (past_of s.seen)
  pub wins : AreEndsBy 1 s.seen s.wins
  pub reads : AreEndsRead s.seen s.reads
  pub cancelled : AreCancelled (cancelled_of s) (past_of s.seen)
  pub due : AllWereDue (past_of s.seen)
