-- No frame comes while a receive waits that could be given something, where a full queue discards a frame.
use Rattle.std.specs.Prelude.{◌≡◌, Bool, true, false, ⊤, IsTrue, List, [], ◌∷◌, ◌++◌}
use Rattle.std.specs.List.{list_all}
use Rattle.turn_lock.specs.declared.turn.Turn.{Turn}
use Rattle.sp_base.specs.declared.role.Role.{Role}
use Rattle.sp_base.specs.declared.role.Role.TheVariants.{Sub, Surveyor, Bus}
use Rattle.sp_history.specs.declared.entry.Entry.{Entry}
use Rattle.sp_history.specs.declared.entry.Entry.TheVariants.{Frame}
use Rattle.sp_history.specs.declared.setting.Setting.{Setting}
use Rattle.sp_history.specs.Past.{pend}
use Rattle.sp_history.specs.Requests.{requests}
use Rattle.sp_history.specs.Legal.{sending}
use Rattle.sp_history.specs.Settled.{receive_settled}
use Rattle.sp_history.specs.Moments.{Moment, past}

-- the roles of which a full queue discards a frame: nng_sub(7), nng_surveyor(7), nng_bus(7)
abbrev pub discards : Role → Bool
discards Sub = true
discards Surveyor = true
discards Bus = true
discards _ = false

-- no receive is pending for which something is kept
abbrev pub NoneWaits : Setting → List Entry → Type 0
NoneWaits z past = IsTrue (list_all (receive_settled z past) (pend past))

-- each frame of these entries comes when no receive waits like this
abbrev pub FindNoneWaiting : Setting → List Entry → List Entry → Type 0
FindNoneWaiting z past [] = ⊤
FindNoneWaiting z past (Frame p b ∷ entries) = NoneWaits z past × FindNoneWaiting z (Frame p b ∷ past) entries
FindNoneWaiting z past (e ∷ entries) = FindNoneWaiting z (e ∷ past) entries

-- what a queue kept was given to the receives that waited for it before another frame came
abbrev pub GivesFirst : Setting → List Entry → Turn Entry → Type 0
GivesFirst z past t = IsTrue (discards z.role) → FindNoneWaiting z past t.entries

-- ---- Within the turn

-- the same, for entries of which the newest is the first
abbrev pub FoundNoneWaiting : Setting → List Entry → List Entry → Type 0
FoundNoneWaiting z before [] = ⊤
FoundNoneWaiting z before (Frame p b ∷ turn) = NoneWaits z (turn ++ before) × FoundNoneWaiting z before turn
FoundNoneWaiting z before (e ∷ turn) = FoundNoneWaiting z before turn

-- no send is pending, and no operation whose request has ended
abbrev pub OnlyReceives : Setting → List Entry → Type 0
OnlyReceives z past = (sending (pend past) ≡ []) × ((requests z past).orphans ≡ [])

-- if only receives are pending, none of them waits
abbrev pub HasNoneWaiting : Moment → Type 0
HasNoneWaiting t = IsTrue (discards t.z.role) → OnlyReceives t.z (past t) → NoneWaits t.z (past t)

-- if only receives were pending, that is so later, and none of them waits
abbrev pub GivesAll : Moment → Moment → Type 0
GivesAll t u =
    IsTrue (discards t.z.role) → OnlyReceives t.z (past t) → OnlyReceives u.z (past u) × NoneWaits u.z (past u)

-- no receive waits, and none did when a frame of the turn came
abbrev pub HasGivenFirst : Moment → Type 0
HasGivenFirst t =
    IsTrue (discards t.z.role) → OnlyReceives t.z (past t) × NoneWaits t.z (past t) × FoundNoneWaiting t.z t.before t.turn
