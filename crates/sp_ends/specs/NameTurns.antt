-- What happens to names within the process in a turn of the ends.
use Rattle.std.specs.Prelude.{◌≡◌, ◌≤◌, ◌*◌, ◌⊎◌, ℕ, ⊤, true, false, List, [], ◌∷◌, length, Option, Some, None}
use Rattle.sp_base.specs.declared.role.Role.{Role}
use Rattle.sp_history.specs.Lists.{has}
use Rattle.sp_history.specs.Past.{past_of, up, untaken, now, ups}
use Rattle.sp_ends.specs.declared.name_dialer.NameDialer.{NameDialer}
use Rattle.sp_socket.specs.Singles.{SingleView}
use Rattle.sp_lane.specs.Registry.{Registry}
use Rattle.sp_ends.specs.SocketSteps.{Quietly, NoLane}
use Rattle.sp_ends.specs.NameSteps.{IsDueNameDialer, IsFreeNameDialer, HasCalled, GoesOn, DialsDue, AllBring, Accepting}
use Rattle.sp_ends.specs.EndViews.{LinkEndsView, NamesView}

-- the pipe is down, and its wire was taken
pub record IsGone (s : SingleView) (p : ℕ) : Type 0 where
  pub numbered : p ≤ ups (past_of s.seen)
  pub down : has (up (past_of s.seen)) p ≡ false
  pub taken : has (untaken (past_of s.seen)) p ≡ false

-- the wire of this pipe was taken, and no other
pub record TookPipe (p : ℕ) (s s' : SingleView) : Type 0 where
  pub gone : IsGone s' p
  pub others : (q : ℕ) → (p ≡ q → ⊥) → has (untaken (past_of s.seen)) q ≡ true → has (untaken (past_of s'.seen)) q ≡ true

-- one wire was taken, or there was none to take
abbrev pub TakesPipe : Option ℕ → SingleView → SingleView → Type 0
TakesPipe None s s' = untaken (past_of s.seen) ≡ []
TakesPipe (Some p) s s' = TookPipe p s s'

-- it is the same, and its pipe was not down before; or its pipe is gone, and it is free
abbrev pub TakesCaller : ℕ → SingleView → SingleView → NameDialer → NameDialer → Type 0
TakesCaller now s s' old new =
    (new ≡ old) × ((p : ℕ) → old.pipe ≡ Some p → has (untaken (past_of s.seen)) p ≡ true → ⊥) ⊎ ((p : ℕ) × (old.pipe ≡ Some p) × IsGone s' p × IsFreeNameDialer now old new)

-- each of the callers, one by one
abbrev pub TakesCallers : ℕ → SingleView → SingleView → List NameDialer → List NameDialer → Type 0
TakesCallers now s s' [] [] = ⊤
TakesCallers now s s' (c ∷ cs) (d ∷ ds) = TakesCaller now s s' c d × TakesCallers now s s' cs ds
TakesCallers now s s' _ _ = ⊥

-- it was due, and dialed; or it was not due
abbrev pub TurnsCaller : ℕ → SingleView → SingleView → NameDialer → NameDialer → Type 0
TurnsCaller now s s' old new = (IsDueNameDialer now old × HasCalled now s s' old new) ⊎ ((IsDueNameDialer now old → ⊥) × TakesCaller now s s' old new)

-- each of the callers, one by one
abbrev pub TurnsCallers : ℕ → SingleView → SingleView → List NameDialer → List NameDialer → Type 0
TurnsCallers now s s' [] [] = ⊤
TurnsCallers now s s' (c ∷ cs) (d ∷ ds) = TurnsCaller now s s' c d × TurnsCallers now s s' cs ds
TurnsCallers now s s' _ _ = ⊥

-- First the links had their turn, and no lane came up. Then each name that was due was dialed. Then each name brought all lanes
-- that it had, or 16
pub record TurnsLanes (now : ℕ) (role : Role) (listened : List (List ℕ)) (s s' : SingleView) (reg reg' : Registry) (old new : List NameDialer) : Type 0 where
  pub linked : SingleView
  pub called : SingleView
  pub dialed : Registry
  pub quietly : Quietly s linked
  pub no_lane : NoLane s linked
  pub dials : DialsDue now role linked called reg dialed old new
  pub on : GoesOn called s'
  pub accepting : Accepting (16 * length listened) called s' dialed reg'
  pub brings : AllBring listened dialed reg'

-- the same, in terms of the ends over links and of the names before and after
abbrev pub LanesTurn : {L : Type 0} → ℕ → LinkEndsView L → NamesView → NamesView → SingleView → SingleView → Registry → Registry → Type 0
LanesTurn now old names names' s s' reg reg' =
    TurnsLanes now old.role names.names s s' reg reg' names.callers names'.callers
