-- How a drill's socket ends.
use Rattle.std.specs.Prelude.{◌≡◌, ◌≤◌, ◌++◌, ◌∷◌, ℕ, List, [], Option, Some}
use Rattle.turn_lock.specs.declared.turn.Turn.{Turn}
use Rattle.turn_lock.specs.History.{StartsWith}
use Rattle.sp_msg.specs.Views.{OverLanes, WireView}
use Rattle.sp_base.specs.Wires.{numbers_of}
use Rattle.sp_history.specs.declared.entry.Entry.{Entry}
use Rattle.sp_history.specs.declared.entry.Totals.{Totals}
use Rattle.sp_history.specs.declared.entry.Why.{Why}
use Rattle.sp_history.specs.Past.{past_of, name_of, ups}
use Rattle.sp_core.specs.Closing.{closed_totals}
use Rattle.core_state.specs.Wires.{IsDownWire}
use Rattle.sp_lane.specs.Items.{texts}
use Rattle.sp_lane.specs.Lanes.{OutView}
use Rattle.sp_socket.specs.Passes.{SocketName, ListView}
use Rattle.sp_base.specs.Views.{NetView, FilesView, PaceView, SinkView}
use Rattle.sp_base.specs.Outside.{Rose, grown}
use Rattle.cat_play.specs.declared.status.Status.{Status}
use Rattle.cat_play.specs.declared.status.Status.TheVariants as status
use Rattle.cat_play.specs.Drilling.{lines, drill_setting}
use Rattle.cat_play.specs.Running.{IsCutShort, RunsDrill, world}

-- in this history the pipe came up over a lane of this name
pub record IsFedBy (pipe : ℕ) (lane : List ℕ) (seen : List (Turn Entry)) : Type 0 where
  pub start : List (Turn Entry)
  pub starts : StartsWith seen start
  pub out : List ℕ
  pub name : name_of (past_of start) pipe ≡ Some (numbers_of (OverLanes out lane))
  pub known : pipe ≤ ups (past_of start)

-- the list belongs to the socket, and its passes are handed out
pub record IsOut (s : SocketName) (l : ListView) : Type 0 where
  pub items : l.items ≡ []
  pub callers : l.callers ≡ 4
  pub lock : l.lock ≡ s.lock

-- after what was seen the socket was closed with these totals, and this is the whole
pub record ClosesWith (totals : Totals) (seen whole : List (Turn Entry)) : Type 0 where
  pub early : List (Turn Entry)
  pub late : List (Turn Entry)
  pub whole_is : whole ≡ early ++ late
  pub starts : StartsWith early seen
  pub totals_are : closed_totals (past_of early) ≡ Some totals

-- nothing is left in the lane, `count` messages were put, and the socket has given as many, of as many frames
pub record IsWhole (left put : ℕ) (totals : Totals) (count : ℕ) : Type 0 where
  pub none_left : left ≡ 0
  pub all_put : put ≡ count
  pub won : totals.won ≡ count
  pub frames_are : totals.frames ≡ count

-- the wire of the pipe, which is down, shows as what came what was taken from this lane
pub record CameFrom (pipe : ℕ) (lane : OutView) (past : List Entry) : Type 0 where
  pub wire : WireView
  pub why : Why
  pub is_down : IsDownWire drill_setting past pipe why wire
  pub came : wire.came ≡ Some (texts lane.taken)
  pub out : List ℕ
  pub name : wire.name ≡ OverLanes out lane.name

-- what was printed of the lines of that many messages: all, a prefix of them where the put failed, or nothing
abbrev pub Prints : Status → ℕ → SinkView → SinkView → Type 0
Prints status.Done n old new = new.text ≡ grown old.text (lines n)
Prints status.OutFault n old new = ((piece : List ℕ) × IsCutShort (lines n ∷ []) piece × (new.text ≡ grown old.text piece)) × Rose old.faults new.faults
Prints status.NoMemory n old new = new ≡ old
Prints _ n old new = ⊥

-- the result of a drill, for any net, files and pace, none of which it uses
abbrev pub EndsDrill : Status → ℕ → Option (List (Turn Entry)) → SinkView → SinkView → Type 0
EndsDrill s n record_ old new = (net : NetView) (files : FilesView) (pace : PaceView) → RunsDrill s n record_ (world net files pace old) (world net files pace new)
