-- How long a run goes on when its play is over.
use Rattle.std.specs.Prelude.{◌≤◌, ◌+◌, ℕ, ⊤}
use Rattle.sp_history.specs.Past.{past_of}
use Rattle.sp_socket.specs.Singles.{SingleView}
use Rattle.cat_play.specs.Spending.{late_ticks, stalled_turns}
use Rattle.cat_rounds.specs.declared.player.Player.{Player}
use Rattle.cat_rounds.specs.declared.rounds.Round.{Round}
use Rattle.cat_rounds.specs.declared.rounds.Round.TheVariants as rounds
use Rattle.cat_rounds.specs.Lasting.{play_of}

-- the ticks at which the play was over
abbrev pub late_at : SingleView → Player → ℕ
late_at s p = late_ticks s.setting (play_of p.script) (past_of s.seen)

-- each of these ticks, except n, had a turn in which a pipe could not write all
abbrev pub IsLateBy : ℕ → SingleView → Player → Type 0
IsLateBy n s p = late_at s p ≤ stalled_turns s.seen + n

-- all of them after a round that goes on, and all except one at the end
abbrev pub RoundIsLate : Round → SingleView → Player → Type 0
RoundIsLate (rounds.Goes moved) s p = IsLateBy 0 s p
RoundIsLate (rounds.Ends why) s p = IsLateBy 1 s p

-- a pipe could not write all where the run goes on
abbrev pub StallsMore : Round → SingleView → SingleView → Type 0
StallsMore (rounds.Goes moved) old new = stalled_turns old.seen + 1 ≤ stalled_turns new.seen
StallsMore (rounds.Ends why) old new = ⊤
