-- Operations that their caller began and did not collect.
use Rattle.std.specs.Prelude.{◌≡◌, ◌≢◌, true, ⊤, List, [], ◌∷◌}
use Rattle.turn_lock.specs.declared.turn.Turn.{Turn}
use Rattle.sp_base.specs.declared.OpName.{OpName}
use Rattle.aio_word.specs.Views.{Each}
use Rattle.sp_history.specs.declared.entry.Entry.{Entry}
use Rattle.sp_history.specs.Changes.{none_of}
use Rattle.sp_history.specs.Found.{IsOpenOf, collects}
use Rattle.sp_history.specs.Past.{past_of}
use Rattle.sp_core.specs.declared.calls.collect.Collected.{Collected}
use Rattle.sp_core.specs.declared.calls.collect.Collected.TheVariants as collected
use Rattle.sp_core.specs.Collecting.{IsOpen}
use Rattle.sp_socket.specs.Passes.{PassView, IsSamePass, KeepsSeat}

-- the caller of the pass began the operation, and it wasn't collected: its begin is in the caller's turns, and its Took
-- doesn't
abbrev pub IsOpenFor : PassView → OpName → Type 0
IsOpenFor p op = IsOpen p.number op p.mine

-- it was begun in the pass's last turn
abbrev pub OpensFor : PassView → PassView → OpName → Type 0
OpensFor before after op = IsOpenFor after op × (IsOpenFor before op → ⊥)

-- these are open for the pass, each named once
abbrev pub AreOpenFor : PassView → List OpName → Type 0
AreOpenFor p [] = ⊤
AreOpenFor p (op ∷ ops) = IsOpenFor p op × Each (λ other. op ≢ other) ops × AreOpenFor p ops

-- these entries collect nothing
abbrev pub NoneTaken : List Entry → Type 0
NoneTaken es = (op : OpName) → none_of (collects op) es ≡ true

-- after this history, the turn collects nothing that its caller had open
abbrev pub LeavesOpen : List (Turn Entry) → Turn Entry → Type 0
LeavesOpen h t = (op : OpName) → IsOpenOf t.number op (past_of h) → none_of (collects op) t.entries ≡ true

-- what was open for the pass still is
abbrev pub KeepsOpen : PassView → PassView → Type 0
KeepsOpen before after = (op : OpName) → IsOpenFor before op → IsOpenFor after op

-- the same, except for an operation that was collected
abbrev pub KeepsOthers : Collected → OpName → PassView → PassView → Type 0
KeepsOthers (collected.NotYet o) op before after = KeepsOpen before after
KeepsOthers (collected.Ended outcome) op before after = (other : OpName) → op ≢ other → IsOpenFor before other → IsOpenFor after other

-- the pass is still its caller's, its seat has won and read nothing more, and what was open for it still is
pub record KeepsPass (before after : PassView) : Type 0 where
  pub same : IsSamePass before after
  pub seat : KeepsSeat before after
  pub open_ : KeepsOpen before after

-- the pass is still its caller's, has seen nothing more, and took no turn
pub record TakesNoTurn (before after : PassView) : Type 0 where
  pub same : IsSamePass before after
  pub seen : after.seen ≡ before.seen
  pub mine : after.mine ≡ before.mine
  pub open_ : KeepsOpen before after
