-- What waiting for an operation does to a pass.
use Rattle.std.specs.Prelude.{◌≡◌, ℕ, ⊤, false, List, [], ◌∷◌, ◌++◌}
use Rattle.turn_lock.specs.declared.turn.Turn.{Turn}
use Rattle.turn_lock.specs.History.{turns_of}
use Rattle.sp_base.specs.declared.OpName.{OpName}
use Rattle.aio_word.specs.declared.rule.ShownOperation as word
use Rattle.aio_word.specs.Views.{Each}
use Rattle.sp_history.specs.declared.entry.Entry.{Entry}
use Rattle.sp_history.specs.declared.entry.Entry.TheVariants.{End}
use Rattle.sp_history.specs.Lists.{same_op}
use Rattle.core_state.specs.declared.outcome.Outcome.{Outcome}
use Rattle.sp_core.specs.declared.calls.collect.Collected.TheVariants as collected
use Rattle.sp_core.specs.Collecting.{CollectedBy}
use Rattle.sp_socket.specs.Passes.{PassView, IsSamePass}
use Rattle.sp_socket.specs.Open.{KeepsOpen, TakesNoTurn}
use Rattle.sp_socket.specs.Turns.{TookTurn, ReadsFor}

-- the operation doesn't end in these entries
abbrev pub NotEnded : OpName → List Entry → Type 0
NotEnded op [] = ⊤
NotEnded op (End other ending ∷ es) = (same_op other op ≡ false) × NotEnded op es
NotEnded op (_ ∷ es) = NotEnded op es

-- the pass took no turn and won nothing, and has read more
pub record HasLookedOn (before after : PassView) : Type 0 where
  pub still : TakesNoTurn before after
  pub wins : after.wins ≡ before.wins
  pub more : List word.ShownOperation
  pub reads : after.reads ≡ before.reads ++ more

-- after this history each turn of the caller k collected, and found the operation pending
abbrev pub AreCollectings : OpName → ℕ → List (Turn Entry) → List (Turn Entry) → Type 0
AreCollectings op k h [] = ⊤
AreCollectings op k h (t ∷ ts) = (t.number ≡ k → CollectedBy (collected.NotYet op) op k h t) × AreCollectings op k (h ++ t ∷ []) ts

-- The pass has seen more turns, of others and of its own; each of its own is a collecting, and the operation ended in none
-- of them
pub record Waits (op : OpName) (before now : PassView) : Type 0 where
  pub same : IsSamePass before now
  pub between : List (Turn Entry)
  pub own : List (Turn Entry)
  pub seen : now.seen ≡ before.seen ++ between
  pub mine : now.mine ≡ before.mine ++ own
  pub are_own : turns_of before.number between ≡ own
  pub collect : AreCollectings op before.number before.seen between
  pub unended : Each (λ t. NotEnded op t.entries) own
  pub wins : now.wins ≡ before.wins
  pub more : List word.ShownOperation
  pub reads : now.reads ≡ before.reads ++ more
  pub open_ : KeepsOpen before now

-- Then, in its last turn, the pass collected it
pub record WaitedFor (outcome : Outcome) (op : OpName) (before after : PassView) : Type 0 where
  pub last : PassView
  pub waits : Waits op before last
  pub turn : TookTurn (λ z h t. CollectedBy (collected.Ended outcome) op before.number h t) last after
  pub read : ReadsFor (collected.Ended outcome) op last after
