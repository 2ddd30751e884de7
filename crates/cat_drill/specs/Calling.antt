-- What holds of the callers of a drill's socket.
use Rattle.std.specs.Prelude.{◌≡◌, ◌≢◌, ◌++◌, List, [], ◌∷◌, Option, Some, None}
use Rattle.turn_lock.specs.History.{StartsWith}
use Rattle.sp_base.specs.declared.OpName.{OpName}
use Rattle.sp_socket.specs.Passes.{SocketName, PassView, IsSamePass, label_with}
use Rattle.sp_socket.specs.Open.{IsOpenFor, AreOpenFor, KeepsOpen}
use Rattle.cat_play.specs.Drilling.{drill_setting}

-- the pass belongs to the socket, which is a drill's
abbrev pub IsDrillPass : SocketName → PassView → Type 0
IsDrillPass s p = (p.lock ≡ Some s.lock) × (p.label ≡ Some (label_with s drill_setting)) × (s.words.slots ≡ 256) × (s.words.callers ≡ 4)

-- and these operations are open for it
pub record Calls (s : SocketName) (p : PassView) (ops : List OpName) : Type 0 where
  pub own : IsDrillPass s p
  pub open_ : AreOpenFor p ops

-- all four passes belong to the socket, and these operations are open for the first
pub record AreFourCallers (s : SocketName) (p q r t : PassView) (ops : List OpName) : Type 0 where
  pub main : Calls s p ops
  pub two : IsDrillPass s q
  pub three : IsDrillPass s r
  pub four : IsDrillPass s t

-- what it had seen is a prefix of what it has seen
abbrev pub Later : PassView → PassView → Type 0
Later before after = StartsWith after.seen before.seen

-- it made calls that collect nothing
pub record Worked (before after : PassView) : Type 0 where
  pub same : IsSamePass before after
  pub open_ : KeepsOpen before after
  pub later : Later before after

-- it collected this operation
pub record Collects (op : OpName) (before after : PassView) : Type 0 where
  pub same : IsSamePass before after
  pub others : (other : OpName) → op ≢ other → IsOpenFor before other → IsOpenFor after other
  pub later : Later before after

abbrev pub with_op : Option OpName → List OpName → List OpName
with_op None ops = ops
with_op (Some op) ops = ops ++ op ∷ []
