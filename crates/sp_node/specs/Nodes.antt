-- What contracts see of a node, and what is true of it.
use Rattle.std.specs.Prelude.{◌≡◌, ◌≢◌, ◌⊎◌, ◌++◌, ◌∷◌, ℕ, Bool, true, List}
use Rattle.turn_lock.specs.declared.turn.Turn.{Turn}
use Rattle.sp_base.specs.Views.{LinkView, NetView}
use Rattle.sp_base.specs.declared.OpName.{OpName}
use Rattle.sp_history.specs.declared.entry.Entry.{Entry}
use Rattle.sp_history.specs.Past.{past_of, is_closed}
use Rattle.sp_core.specs.Collecting.{IsOpen}
use Rattle.sp_socket.specs.Singles.{SingleView, cancelled_of, AreCancelled, IsSound, IsNow, IsStill, KeepsOpen, Ticks}
use Rattle.sp_ends.specs.EndViews.{EndsView, LinkEndsView, Beginning}
use Rattle.sp_ends.specs.RunLinks.{EndsStand}
use Rattle.sp_ends.specs.SocketSteps.{IsDry}
use Rattle.sp_ends.specs.LeftLinks.{LinksLeft}

-- its socket, its ends, the last tick, whether a link was missed when out of memory, and whether it is closed
pub record NodeView (L : Type 0) : Type 0 where
  pub single : SingleView
  pub ends : EndsView L
  pub latest : ℕ
  pub dry : Bool
  pub closed : Bool

-- the history of the socket is sound, and the ends stand for it on the net, since it began so
pub record NodeStands {L : Type 0} (seen : L → LinkView) (start : Beginning) (s : SingleView) (ends : LinkEndsView L) (net : NetView) (now : ℕ) (dry closed : Bool) : Type 0 where
  pub sound : IsSound s
  pub ends_stand : EndsStand seen s.setting start s.seen net ends
  pub dry_is : IsDry dry s
  pub now_is : IsNow now s
  pub closed_is : is_closed (past_of s.seen) ≡ closed

-- ---- What a call leaves

-- the same socket, with more turns or none, in which nothing more was cancelled
pub record IsLater (old new : SingleView) : Type 0 where
  pub setting : new.setting ≡ old.setting
  pub turns : List (Turn Entry)
  pub seen : new.seen ≡ old.seen ++ turns
  pub cancelled : cancelled_of new ≡ cancelled_of old

-- the same node, later, and what was begun and not collected is so still
pub record GoesOn {L : Type 0} (old new : NodeView L) : Type 0 where
  pub later : IsLater old.single new.single
  pub open_ : KeepsOpen old.single new.single

-- the same node, which has won or read something without a turn
abbrev pub StaysStill : {L : Type 0} → NodeView L → NodeView L → Type 0
StaysStill old new = IsStill old.single new.single × (new ≡ record old { single = new.single })

-- every other operation that was begun and not collected is so still
abbrev pub KeepsOthers : OpName → SingleView → SingleView → Type 0
KeepsOthers op old new = (other : OpName) → op ≢ other → IsOpen 1 other old.seen → IsOpen 1 other new.seen

-- the first turn since is a tick
pub record TicksFirst (old new : SingleView) : Type 0 where
  pub at : ℕ
  pub turn : Turn Entry
  pub turns : List (Turn Entry)
  pub seen : new.seen ≡ old.seen ++ turn ∷ turns
  pub ticks : Ticks old.seen turn at

-- the clock gave a tick, or the node is closed
abbrev pub TicksOrCloses : {L : Type 0} → NodeView L → NodeView L → Type 0
TicksOrCloses old new = (new.closed ≡ true) ⊎ TicksFirst old.single new.single

-- ---- The end

-- the record is its history and perhaps more, in which what its caller had cancelled was cancelled and nothing else; and
-- since it began all links of the net are back as the record says
pub record Leaves (s : SingleView) (net : NetView) (record_ : List (Turn Entry)) : Type 0 where
  pub turns : List (Turn Entry)
  pub whole : record_ ≡ s.seen ++ turns
  pub start : Beginning
  pub left_ : LinksLeft s.setting start record_ net
  pub cancelled : AreCancelled (cancelled_of s) (past_of record_)
