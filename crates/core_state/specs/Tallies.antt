-- How the counts match a history.
use Rattle.std.specs.Prelude.{◌≡◌, length, Bool, true, false}
use Rattle.std.specs.List.{list_any}
use Rattle.sp_history.specs.declared.entry.Entry.{Entry}
use Rattle.sp_history.specs.declared.entry.Entry.TheVariants.{Frame, Out, End, Down}
use Rattle.sp_history.specs.Past.{ups, totals, now, opened, ctxs}
use Rattle.sp_history.specs.Moments.{Moment, past}
use Rattle.core_state.specs.declared.tally.Tally.{Tally}

-- something came, went out, ended or went down
abbrev pub moves : Entry → Bool
moves (Frame p b) = true
moves (Out p b) = true
moves (End op ending) = true
moves (Down p why) = true
moves _ = false

pub record Tallies (c : Tally) (t : Moment) : Type 0 where
  pub ups_are : c.ups ≡ ups (past t)
  pub totals_are : c.totals ≡ totals (past t)
  pub moved_is : c.moved ≡ list_any moves t.turn
  pub latest_is : c.latest ≡ now (past t)
  pub opened_is : c.opened ≡ opened (past t)
  pub open_is : c.open_ctxs ≡ length (ctxs (past t))
