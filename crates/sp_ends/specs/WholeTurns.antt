-- What a whole turn of the ends does.
use Rattle.std.specs.Prelude.{◌≡◌, ℕ, Bool, length}
use Rattle.std.specs.List.{AllByRecursion}
use Rattle.sp_base.specs.Views.{LinkView, NetView}
use Rattle.sp_lane.specs.Registry.{Registry}
use Rattle.sp_socket.specs.Singles.{SingleView, IsSound}
use Rattle.sp_ends.specs.EndViews.{EndsView, LinkEndsView}
use Rattle.sp_ends.specs.EndsTurns.{StandAgain, AllTaken, SameEnds, AreYoung, HasWaitedSince, AsksAll, AsksEach, AsksDue, FewInProgress}
use Rattle.sp_ends.specs.Freeing.{Turns, AreWaiting, KnowsDialed}
use Rattle.sp_ends.specs.NameTurns.{TurnsCallers, LanesTurn}
use Rattle.sp_ends.specs.SocketSteps.{Quietly, IsDry}

-- the net was asked for links at this tick, and each link that is being opened had its chance
pub record AsksForLinks {L : Type 0} (seen : L → LinkView) (now : ℕ) (old new : LinkEndsView L) (net net' : NetView) : Type 0 where
  pub turns : Turns now net net' old.dialers new.dialers
  pub waits : AreWaiting now new.dialers
  pub young : AreYoung now 0 new.newcomers
  pub waited : AllByRecursion (HasWaitedSince seen old.newcomers net.opened) new.newcomers
  pub known : KnowsDialed (length old.listeners) net net' new.dialers
  pub listens : net'.listens ≡ net.listens
  pub all : AsksAll now old net net'
  pub each : AsksEach now old net net'
  pub dues : AsksDue now old.dialers net net'
  pub few : FewInProgress old new

-- the ends had their turn at this tick, on this socket, this net and these names
pub record TurnsEnds {L : Type 0} (seen : L → LinkView) (now : ℕ) (is_dry : Bool) (old new : EndsView L) (net net' : NetView) (s s' : SingleView) (reg reg' : Registry) : Type 0 where
  pub stands : StandAgain seen s s' net net' old.links new.links
  pub sound : IsSound s'
  pub quietly : Quietly s s'
  pub dry : IsDry is_dry s'
  pub taken : AllTaken s s'
  pub same : SameEnds old.links new.links
  pub asked : AsksForLinks seen now old.links new.links net net'
  pub names : new.names.names ≡ old.names.names
  pub callers : TurnsCallers now s s' old.names.callers new.names.callers
  pub lanes : LanesTurn now old.links old.names new.names s s' reg reg'
