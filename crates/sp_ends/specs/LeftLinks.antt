-- What holds of the links of a run that is over.
use Rattle.std.specs.Prelude.{◌≡◌, ◌≢◌, ◌≤◌, ◌<◌, ◌^◌, ℕ, true, IsTrue, List, length, Some}
use Rattle.turn_lock.specs.declared.turn.Turn.{Turn}
use Rattle.sp_base.specs.Views.{NetView, LinkView}
use Rattle.sp_history.specs.declared.entry.Entry.{Entry}
use Rattle.sp_history.specs.declared.setting.Setting.{Setting}
use Rattle.sp_history.specs.Past.{past_of, down_for, is_cleared, is_closed}
use Rattle.sp_ends.specs.Entries.{each}
use Rattle.sp_ends.specs.LinkRecords.{lane_place, place_of, IsBack, Records, times_out_rightly}
use Rattle.sp_ends.specs.LinkRecords.{KeepsOthers, AreWhole}
use Rattle.sp_ends.specs.LinkCounts.{IsAsked, IsRead}
use Rattle.sp_history.specs.Found.{ticks}
use Rattle.sp_links.specs.Origins.{run_ways}
use Rattle.sp_ends.specs.EndViews.{Beginning, LinkEndsView}
use Rattle.sp_history.specs.declared.entry.Why.TheVariants as whys
use Rattle.sp_ends.specs.RunLinks.{EndsStand}
use Rattle.sp_history.specs.Legal.{Legal}
use Rattle.sp_core.specs.Parts.{HasWires}
use Rattle.core_state.specs.declared.pipes.DownPipe.{DownPipe}
use Rattle.sp_links.specs.EndWires.{shown}
use Rattle.sp_links.specs.declared.wire.EndWire.{EndWire}

-- every pipe that the close took down had all written
abbrev pub ClosedCleared : List Entry → Type 0
ClosedCleared past = (p : ℕ) → down_for past p ≡ Some whys.Closed → is_cleared past p ≡ true

-- all links are back, and what is said about them holds
pub record LinksLeft (z : Setting) (start : Beginning) (h : List (Turn Entry)) (net : NetView) : Type 0 where
  pub records : IsTrue (each times_out_rightly (past_of h)) → Records (run_ways z.role start.origins) z start.origins.limits start.net.opened net.opened net.back h
  pub others : KeepsOthers start.net net
  pub asked : length (ticks (past_of h)) < 2 ^ 64 → (place : ℕ) → start.net.opened ≤ place → place < net.opened → IsBack net.back place (IsAsked (past_of h) place)
  pub read : (p place : ℕ) → place_of (past_of h) p ≡ Some place → place ≢ lane_place → place < net.opened → IsBack net.back place (IsRead h p)
  pub whole : ClosedCleared (past_of h) → AreWhole z net (past_of h)

-- the ends stand for a history with these wires
abbrev pub StandWithWires : {L : Type 0} → (L → LinkView) → NetView → LinkEndsView L → List (DownPipe (EndWire L)) → Type 0
StandWithWires seen net ends wires =
    (z : Setting) × (start : Beginning) × (h : List (Turn Entry)) × EndsStand seen z start h net ends × HasWires shown wires z (past_of h)

-- for each closed history that they stand for, its links are left
abbrev pub LeaveLinks : {L : Type 0} → (L → LinkView) → NetView → NetView → LinkEndsView L → List (DownPipe (EndWire L)) → Type 0
LeaveLinks seen net net' ends wires =
    (z : Setting) (start : Beginning) (h : List (Turn Entry)) → Legal z h → is_closed (past_of h) ≡ true → EndsStand seen z start h net ends → HasWires shown wires z (past_of h) → LinksLeft z start h net'
