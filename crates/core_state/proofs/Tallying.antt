-- The counts match a history that goes on.
use Rattle.std.proofs.Common.{◌≡◌, ap, sym, ◌∙◌, false, length}
use Rattle.sp_history.specs.declared.entry.Entry.{Entry}
use Rattle.sp_history.specs.declared.entry.Totals.{Totals}
use Rattle.sp_history.specs.Past.{ups, up_to_most, counts, counted, now, opened, ctxs}
use Rattle.sp_history.specs.Moments.{Moment, past, also}
use Rattle.core_state.specs.declared.tally.Tally.{Tally}
use Rattle.core_state.specs.Tallies.{Tallies, moves}

-- an entry that isn't counted changes nothing
pub same_tally : (c : Tally) (t : Moment) (e : Entry) → ups (past (also t e)) ≡ ups (past t) → counted e (counts (past t)) ≡ counts (past t) → moves e ≡ false → now (past (also t e)) ≡ now (past t) → opened (past (also t e)) ≡ opened (past t) → ctxs (past (also t e)) ≡ ctxs (past t) → Tallies c t → Tallies c (also t e)
same_tally c t e u k m n o x h = record { ups_are = h.ups_are ∙ sym u; totals_are = h.totals_are ∙ ap most_of (sym k); moved_is = rw m h.moved_is; latest_is = h.latest_is ∙ sym n; opened_is = h.opened_is ∙ sym o; open_is = h.open_is ∙ ap length (sym x) }
  where
    most_of : Totals → Totals
    most_of t = record { begun = up_to_most t.begun; won = up_to_most t.won; gone = up_to_most t.gone; frames = up_to_most t.frames; outs = up_to_most t.outs; fulls = up_to_most t.fulls }
