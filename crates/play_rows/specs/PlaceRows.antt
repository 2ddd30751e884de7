-- Example records of links: the entries that may come, and the links that are in progress.
use Rattle.std.specs.Prelude.{◌≡◌, ◌-◌, ◌^◌, true, false, List, [], ◌∷◌, Some}
use Rattle.sp_base.specs.declared.role.Role.TheVariants.{Pull, Pair0}
use Rattle.sp_history.specs.declared.entry.Cause.TheVariants.{TimedOut}
use Rattle.sp_history.specs.declared.entry.Ending.TheVariants.{Gone}
use Rattle.sp_history.specs.declared.entry.Miss.TheVariants as misses
use Rattle.sp_history.specs.declared.entry.Why.TheVariants as whys
use Rattle.sp_history.specs.declared.entry.Entry.{Entry}
use Rattle.sp_history.specs.declared.entry.Entry.TheVariants.{Up, Met, NoUp, Down, Frame, End, Tick}
use Rattle.sp_history.specs.Past.{onto}
use Rattle.sp_ends.specs.Entries.{each}
use Rattle.sp_ends.specs.LinkRecords.{keeps_places, greeting, met_at, place_of, refuses, times_out_rightly, went_down_for_frame}
use Rattle.play_rows.specs.Rows.{socket, op, unnamed}

-- two links are met; the second comes up, the first is missed
abbrev pub two_links : List Entry
two_links = Tick 5 [] ∷ Met 0 ∷ Met 1 ∷ Tick 6 [] ∷ Up 1 1 1048576 unnamed ∷ Tick 7 [] ∷ NoUp 0 misses.Bad ∷ []

pub record PlaceRows : Type 0 where
  pub two : each (keeps_places 0 2) (onto two_links []) ≡ true
  pub two_left : greeting (onto two_links []) ≡ []
  pub two_met : met_at (onto two_links []) 0 ≡ Some 5
  pub two_placed : place_of (onto two_links []) 1 ≡ Some 1
  -- a lane comes up unmet
  pub lane : each (keeps_places 0 0) (onto (Up 1 (2 ^ 32 - 1) (2 ^ 32 - 1) unnamed ∷ []) []) ≡ true
  -- the links that are still in progress
  pub left_over : greeting (onto (Met 3 ∷ Met 4 ∷ NoUp 3 misses.Ended ∷ []) []) ≡ 4 ∷ []
  -- a link comes up that was not met
  pub unmet : each (keeps_places 0 2) (onto (Up 1 1 1048576 unnamed ∷ []) []) ≡ false
  -- a link is met twice
  pub twice : each (keeps_places 0 2) (onto (Met 0 ∷ Met 0 ∷ []) []) ≡ false
  -- it is missed after it came up
  pub both : each (keeps_places 0 2) (onto (Met 0 ∷ Up 1 0 1048576 unnamed ∷ NoUp 0 misses.Ended ∷ []) []) ≡ false
  -- it comes up twice
  pub up_twice : each (keeps_places 0 2) (onto (Met 0 ∷ Up 1 0 1048576 unnamed ∷ Up 2 0 1048576 unnamed ∷ []) []) ≡ false
  -- a link of another run is met
  pub other_run : each (keeps_places 1 2) (onto (Met 0 ∷ []) []) ≡ false
  pub beyond : each (keeps_places 0 1) (onto (Met 1 ∷ []) []) ≡ false
  -- a pair with a pipe takes no second one, a pull does
  pub pair_refuses : refuses (socket Pair0) (onto (Met 0 ∷ Up 1 0 1048576 unnamed ∷ []) []) ≡ true
  pub pair_again : refuses (socket Pair0) (onto (Met 0 ∷ Up 1 0 1048576 unnamed ∷ Down 1 whys.Ended ∷ []) []) ≡ false
  pub pull_takes : refuses (socket Pull) (onto (Met 0 ∷ Up 1 0 1048576 unnamed ∷ []) []) ≡ false
  -- an operation that times out was due
  pub due : each times_out_rightly (onto (Tick 9 (op 0 1 ∷ []) ∷ End (op 0 1) (Gone TimedOut 1) ∷ []) []) ≡ true
  pub not_due : each times_out_rightly (onto (Tick 9 (op 0 1 ∷ []) ∷ End (op 1 1) (Gone TimedOut 1) ∷ []) []) ≡ false
  pub due_later : each times_out_rightly (onto (End (op 0 1) (Gone TimedOut 1) ∷ Tick 9 (op 0 1 ∷ []) ∷ []) []) ≡ false
  -- no frame of a pull is malformed
  pub well_formed : went_down_for_frame (socket Pull) (onto (Frame 1 [] ∷ Down 1 whys.Malformed ∷ []) []) 1 ≡ false
