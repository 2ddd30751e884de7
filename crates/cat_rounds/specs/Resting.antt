-- When a round reports that something still moves.
use Rattle.std.specs.Prelude.{◌≡◌, ◌≤◌, ◌+◌, ◌++◌, ⊤, true, false, List, [], ◌∷◌, length}
use Rattle.std.specs.List.{list_any}
use Rattle.turn_lock.specs.declared.turn.Turn.{Turn}
use Rattle.sp_history.specs.declared.entry.Entry.{Entry}
use Rattle.sp_history.specs.Past.{past_of}
use Rattle.sp_history.specs.Swept.{IsSwept}
use Rattle.core_state.specs.Tallies.{moves}
use Rattle.sp_socket.specs.Singles.{SingleView}
use Rattle.cat_play.specs.Scripts.{under_way}
use Rattle.sp_ends.specs.Entries.{AddsNone, moves_ends}
use Rattle.cat_rounds.specs.declared.player.PlayEnd.TheVariants as overs
use Rattle.cat_rounds.specs.declared.player.Player.{Player}
use Rattle.cat_rounds.specs.declared.rounds.Going.{Going}
use Rattle.cat_rounds.specs.declared.rounds.Going.TheVariants as goings
use Rattle.cat_rounds.specs.declared.rounds.Round.{Round}
use Rattle.cat_rounds.specs.declared.rounds.Round.TheVariants as rounds
use Rattle.cat_rounds.specs.PlayerSteps.{IsKept}

-- a turn since the last tick served the pipes: nothing came, went out, ended or went down in it, and nothing that was
-- begun since then is under way
pub record IsAtRest (s : SingleView) : Type 0 where
  pub before : List (Turn Entry)
  pub turn : Turn Entry
  pub since : AddsNone moves_ends (before ++ turn ∷ []) s.seen
  pub swept : IsSwept s.setting (past_of before) turn
  pub still : list_any moves turn.entries ≡ false
  pub none_begun : IsKept (under_way (past_of before)) (under_way (past_of s.seen))

-- nothing that was begun between them is under way
abbrev pub BeginsNothing : SingleView → SingleView → Type 0
BeginsNothing old new = IsKept (under_way (past_of old.seen)) (under_way (past_of new.seen))

-- 64 further turns
abbrev pub HasGoneFar : SingleView → SingleView → Type 0
HasGoneFar old new = length old.seen + 64 ≤ length new.seen

-- what the play returns of it
abbrev pub MovesStill : Going → SingleView → SingleView → Type 0
MovesStill (goings.Rests false) old new = IsAtRest new
MovesStill (goings.Rests true) old new = HasGoneFar old new
MovesStill _ old new = ⊤

-- a round with which the play isn't over returns that nothing moves where all is at rest, and that something does where
-- the pipes were served this often; other rounds return that nothing does
abbrev pub RoundMoves : Round → Player → SingleView → SingleView → Type 0
RoundMoves (rounds.Goes false) p old new = p.over ≡ overs.Open → IsAtRest new
RoundMoves (rounds.Goes true) p old new = HasGoneFar old new
RoundMoves (rounds.Ends why) p old new = ⊤
