-- What the ends do to the history of the socket.
use Rattle.std.specs.Prelude.{◌≡◌, ◌==◌, Bool, false}
use Rattle.sp_history.specs.declared.entry.Entry.{Entry}
use Rattle.sp_history.specs.declared.entry.Entry.TheVariants.{Up}
use Rattle.sp_history.specs.Past.{past_of}
use Rattle.sp_ends.specs.LinkRecords.{lane_place}
use Rattle.sp_ends.specs.LinkRecords.{has_dry_miss}
use Rattle.sp_socket.specs.Singles.{SingleView, cancelled_of}
use Rattle.sp_ends.specs.Entries.{AddsNone, moves_calls}

-- the turns of a run that is open: no rule of plays concerns them, and nothing was cancelled
pub record Quietly (old new : SingleView) : Type 0 where
  pub setting : new.setting ≡ old.setting
  pub silent : AddsNone moves_calls old.seen new.seen
  pub cancelled : cancelled_of new ≡ cancelled_of old

-- a link was missed when out of memory so far, or not
abbrev pub IsDry : Bool → SingleView → Type 0
IsDry is_dry s = has_dry_miss (past_of s.seen) ≡ is_dry

-- a lane comes up
abbrev pub is_lane : Entry → Bool
is_lane (Up p place limit name) = place == lane_place
is_lane _ = false

-- no lane came up between these two
abbrev pub NoLane : SingleView → SingleView → Type 0
NoLane old new = AddsNone is_lane old.seen new.seen
