-- What contracts see of the parts of a run, and what is true of them.
use Rattle.std.specs.Prelude.{◌≡◌, ℕ, Option, []}
use Rattle.sp_history.specs.Past.{past_of}
use Rattle.sp_history.specs.Legal.{Legal}
use Rattle.sp_history.specs.Settled.{Settled}
use Rattle.sp_socket.specs.Singles.{SingleView, IsNow, cancelled_of}
use Rattle.sp_lane.specs.Registry.{Registry}
use Rattle.sp_ends.specs.EndViews.{EndsView}
use Rattle.cat_rounds.specs.declared.player.Player.{Player}
use Rattle.cat_rounds.specs.Lasting.{PlayStands, AreOn}
use Rattle.cat_rounds.specs.declared.stillness.Stillness.{Stillness}

-- the socket of a run, its ends, its play, the names within the process, and, once the play is over, the time since
-- which no link took a byte
pub record RunPartsView (L : Type 0) : Type 0 where
  pub single : SingleView
  pub ends : EndsView L
  pub player : Player
  pub inproc : Registry
  pub still : Option Stillness

-- the history of the socket is legal and settled, and its caller has cancelled nothing
pub record IsSoundRun (s : SingleView) : Type 0 where
  pub legal : Legal s.setting s.seen
  pub settled : Settled s.setting s.seen
  pub uncancelled : cancelled_of s ≡ []

-- the history of the socket is sound, and the play corresponds to it
pub record IsRunning (s : SingleView) (p : Player) : Type 0 where
  pub sound : IsSoundRun s
  pub play : PlayStands s.setting s.seen p

-- this is the moment, and the topics of the play are there, so an operation may begin
pub record IsAt (s : SingleView) (p : Player) (now : ℕ) : Type 0 where
  pub now_is : IsNow now s
  pub topics_on : AreOn p.script.topics (past_of s.seen)

-- it holds at every moment at which it held before
abbrev pub StaysAt : {L : Type 0} → RunPartsView L → RunPartsView L → Type 0
StaysAt r r' = (now : ℕ) → IsAt r.single r.player now → IsAt r'.single r'.player now
