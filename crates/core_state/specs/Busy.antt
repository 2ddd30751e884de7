-- Which pipes are busy.
use Rattle.std.specs.Prelude.{◌==◌, ◌&&◌, ◌||◌, not, ℕ, Bool, false, List, [], ◌∷◌}
use Rattle.sp_history.specs.declared.entry.Entry.{Entry}
use Rattle.sp_history.specs.declared.entry.Entry.TheVariants.{Frame, Out, Stall, Clear}

-- since the pipe was last found to have nothing left to write, a frame came from it, a message was put on it, or
-- something was left to write
abbrev pub is_busy : List Entry → ℕ → Bool
is_busy [] p = false
is_busy (Frame q b ∷ past) p = (q == p) || is_busy past p
is_busy (Out q b ∷ past) p = (q == p) || is_busy past p
is_busy (Stall q ∷ past) p = (q == p) || is_busy past p
is_busy (Clear q ∷ past) p = not (q == p) && is_busy past p
is_busy (_ ∷ past) p = is_busy past p
