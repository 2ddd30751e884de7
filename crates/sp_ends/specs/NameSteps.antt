-- What is done with names within the process.
use Rattle.std.specs.Prelude.{◌≡◌, ◌≤◌, ◌<◌, ◌+◌, ◌++◌, ◌⊎◌, ℕ, ⊤, List, [], ◌∷◌, length, Option, Some, None, Result, Ok, Err, slice_get, slice_set}
use Rattle.std.specs.List.{AllByRecursion}
use Rattle.turn_lock.specs.declared.turn.Turn.{Turn}
use Rattle.sp_base.specs.Views.{LinkView, NetView}
use Rattle.sp_base.specs.declared.role.Role.{Role}
use Rattle.sp_history.specs.declared.entry.Entry.{Entry}
use Rattle.sp_history.specs.Past.{past_of, now, ups}
use Rattle.sp_ends.specs.LinkRecords.{lane_place, place_of}
use Rattle.sp_ends.specs.LinkRecords.{has_dry_miss}
use Rattle.sp_ends.specs.declared.name_dialer.NameDialer.{NameDialer}
use Rattle.sp_socket.specs.Singles.{SingleView, IsSound}
use Rattle.sp_lane.specs.LaneWires.{LaneWireView}
use Rattle.core_state.specs.declared.causes.AttachError.{AttachError}
use Rattle.sp_ends.specs.DialMoments.{moment, IsDueAt}
use Rattle.sp_ends.specs.EndViews.{LinkEndsView, Beginning}
use Rattle.sp_ends.specs.RunLinks.{EndsStand}
use Rattle.sp_lane.specs.Registry.{Registry, ListenerView, Dials, names}
use Rattle.sp_ends.specs.SocketSteps.{Quietly}
use Rattle.sp_core.specs.Attaching.{RefusedAttach}
use Rattle.sp_lane.specs.declared.inproc.InprocError.{InprocError}

-- ---- Name dialers

-- it has no pipe, and may dial
abbrev pub IsDueNameDialer : ℕ → NameDialer → Type 0
IsDueNameDialer now c = (c.pipe ≡ None) × IsDueAt c.next now

-- it now has no pipe, and may dial after the pause
abbrev pub IsFreeNameDialer : ℕ → NameDialer → NameDialer → Type 0
IsFreeNameDialer now old new = new ≡ record old { next = moment (now + 100); pipe = None }

-- the caller that had this pipe is free; any other is the same
pub record IsLostNameDialer (now pipe : ℕ) (old new : NameDialer) : Type 0 where
  pub lost : old.pipe ≡ Some pipe → IsFreeNameDialer now old new
  pub others : (old.pipe ≡ Some pipe → ⊥) → new ≡ old

-- the callers that had this pipe are free, one by one
abbrev pub AreLost : ℕ → ℕ → List NameDialer → List NameDialer → Type 0
AreLost now pipe [] [] = ⊤
AreLost now pipe (c ∷ cs) (d ∷ ds) = IsLostNameDialer now pipe c d × AreLost now pipe cs ds
AreLost now pipe _ _ = ⊥

-- the pipe came up over lanes between these
abbrev pub IsNewLane : SingleView → SingleView → ℕ → Type 0
IsNewLane old new p = (ups (past_of old.seen) < p) × (place_of (past_of new.seen) p ≡ Some lane_place)

-- it dialed: it has a new pipe over lanes, or is free
abbrev pub HasCalled : ℕ → SingleView → SingleView → NameDialer → NameDialer → Type 0
HasCalled now s s' old new =
    IsFreeNameDialer now old new ⊎ ((p : ℕ) × IsNewLane s s' p × (new ≡ record old { next = moment (now + 100); pipe = Some p }))

-- one that is due dialed; any other is the same
abbrev pub CallsOne : ℕ → SingleView → SingleView → NameDialer → NameDialer → Type 0
CallsOne now s s' old new = (IsDueNameDialer now old × HasCalled now s s' old new) ⊎ ((IsDueNameDialer now old → ⊥) × (new ≡ old))

abbrev pub CallsAll : ℕ → SingleView → SingleView → List NameDialer → List NameDialer → Type 0
CallsAll now s s' [] [] = ⊤
CallsAll now s s' (c ∷ cs) (d ∷ ds) = CallsOne now s s' c d × CallsAll now s s' cs ds
CallsAll now s s' _ _ = ⊥

-- ---- The history goes on

-- the second history begins with the first
abbrev pub Begins : List (Turn Entry) → List (Turn Entry) → Type 0
Begins early late = (rest : List (Turn Entry)) × (late ≡ early ++ rest)

-- the history goes on, and what is known of its pipes still holds
pub record GoesOn (s s' : SingleView) : Type 0 where
  pub quietly : Quietly s s'
  pub sound : IsSound s → IsSound s'
  pub dry : has_dry_miss (past_of s'.seen) ≡ has_dry_miss (past_of s.seen)
  pub begins : Begins s.seen s'.seen
  pub ups : ups (past_of s.seen) ≤ ups (past_of s'.seen)
  pub places : (p place : ℕ) → place_of (past_of s.seen) p ≡ Some place → place_of (past_of s'.seen) p ≡ Some place

-- what holds of the ends over links still holds
abbrev pub KeepsLinks : {L : Type 0} → (L → LinkView) → SingleView → SingleView → Type 0
KeepsLinks {L} seen s s' =
    (start : Beginning) (net : NetView) (ends : LinkEndsView L) → EndsStand seen s.setting start s.seen net ends → EndsStand seen s'.setting start s'.seen net ends

-- ---- Lanes

-- a lane came up, as the next pipe, and no other pipe did; or `attach` refused it, and no pipe came up
abbrev pub CameUp : Option ℕ → SingleView → SingleView → Type 0
CameUp (Some p) s s' = IsNewLane s s' p × (p ≡ ups (past_of s'.seen)) × (ups (past_of s'.seen) ≡ ups (past_of s.seen) + 1)
CameUp None s s' = (ups (past_of s'.seen) ≡ ups (past_of s.seen)) × ((why : AttachError) × RefusedAttach why s.setting (past_of s.seen))

-- a new pipe, or none
abbrev pub HasNewLane : Option ℕ → SingleView → SingleView → Type 0
HasNewLane (Some p) s s' = IsNewLane s s' p
HasNewLane None s s' = ⊤

-- ---- Names that are dialed

-- the name was dialed in this role, and its lane went to `attach`
pub record DialsLane (name : List ℕ) (role : Role) (pipe : Option ℕ) (s s' : SingleView) (reg reg' : Registry) : Type 0 where
  pub wire : LaneWireView
  pub dials : Dials name role (Ok wire) reg reg'
  pub on : GoesOn s s'
  pub came : CameUp pipe s s'

-- it was refused: there is no listener, or not one in the peer's role, or no memory
abbrev pub IsRefusedDial : List ℕ → Role → SingleView → SingleView → Registry → Registry → Type 0
IsRefusedDial name role s s' reg reg' = (why : InprocError) × Dials name role (Err why) reg reg' × (s' ≡ s)

-- the name was dialed, and this is the pipe that it brought
abbrev pub TriesName : List ℕ → Role → Option ℕ → SingleView → SingleView → Registry → Registry → Type 0
TriesName name role (Some p) s s' reg reg' = DialsLane name role (Some p) s s' reg reg'
TriesName name role None s s' reg reg' = DialsLane name role None s s' reg reg' ⊎ IsRefusedDial name role s s' reg reg'

-- the caller at this place dialed, and the others are the same
abbrev pub CallsAt : ℕ → ℕ → Role → SingleView → SingleView → Registry → Registry → List NameDialer → List NameDialer → Type 0
CallsAt i now role s s' reg reg' old new =
    (c : NameDialer) × (d : NameDialer) × (slice_get old i ≡ Some c) × HasCalled now s s' c d × TriesName c.name role d.pipe s s' reg reg' × (new ≡ slice_set old i d)

-- one that is due dialed, and has the pipe that this brought; for any other one nothing was done
abbrev pub DialsIfDue : ℕ → Role → SingleView → SingleView → Registry → Registry → NameDialer → NameDialer → Type 0
DialsIfDue now role s s' reg reg' old new =
    (IsDueNameDialer now old × TriesName old.name role new.pipe s s' reg reg') ⊎ ((IsDueNameDialer now old → ⊥) × (s' ≡ s) × (reg' ≡ reg))

-- the callers dial one after another, and nothing else is done with the socket or the names
abbrev pub DialsDue : ℕ → Role → SingleView → SingleView → Registry → Registry → List NameDialer → List NameDialer → Type 0
DialsDue now role s s' reg reg' [] [] = (s' ≡ s) × (reg' ≡ reg)
DialsDue now role s s' reg reg' (c ∷ cs) (d ∷ ds) = (mid : SingleView) × (r : Registry) × DialsIfDue now role s mid reg r c d × DialsDue now role mid s' r reg' cs ds
DialsDue now role s s' reg reg' _ _ = ⊥

-- ---- Lanes that are accepted

-- at a moment between these two, `attach` would have been refused for this cause
abbrev pub WasRefusedLane : SingleView → SingleView → AttachError → Type 0
WasRefusedLane s s' why = (mid : List (Turn Entry)) × Begins s.seen mid × Begins mid s'.seen × RefusedAttach why s.setting (past_of mid)

-- the results for the lanes between these, the last first: each is a new pipe, with a number below this one, or
-- `attach` refused it
abbrev pub AreAttached : SingleView → SingleView → ℕ → List (Result ℕ AttachError) → Type 0
AreAttached s s' below [] = ⊤
AreAttached s s' below (Ok p ∷ rest) = (p < below) × IsNewLane s s' p × AreAttached s s' p rest
AreAttached s s' below (Err why ∷ rest) = WasRefusedLane s s' why × AreAttached s s' below rest

-- the number of them that are pipes
abbrev pub pipes_of : List (Result ℕ AttachError) → ℕ
pipes_of [] = 0
pipes_of (Ok p ∷ rest) = pipes_of rest + 1
pipes_of (Err why ∷ rest) = pipes_of rest

-- the number of halves that were dialed and not accepted
abbrev pub halves_of : Registry → ℕ
halves_of [] = 0
halves_of (l ∷ rest) = length l.halves + halves_of rest

-- it brought all halves that it had, or 16
abbrev pub HasBrought : ListenerView → ListenerView → Type 0
HasBrought old new = (new.halves ≡ []) ⊎ (length new.halves + 16 ≤ length old.halves)

-- the first listener with this name brought its halves
abbrev pub Brings : List ℕ → Registry → Registry → Type 0
Brings name [] reg' = ⊤
Brings name (l ∷ reg) [] = ⊥
Brings name (l ∷ reg) (l' ∷ reg') = (l.name ≡ name → HasBrought l l') × ((l.name ≡ name → ⊥) → Brings name reg reg')

-- each of these names brought its halves
abbrev pub AllBring : List (List ℕ) → Registry → Registry → Type 0
AllBring listened reg reg' = AllByRecursion (λ name. Brings name reg reg') listened

-- the same names, with as many halves or fewer
abbrev pub HasFewer : Registry → Registry → Type 0
HasFewer [] [] = ⊤
HasFewer (l ∷ reg) (l' ∷ reg') = (l'.name ≡ l.name) × (length l'.halves ≤ length l.halves) × HasFewer reg reg'
HasFewer _ _ = ⊥

-- At most `most` lanes were accepted. All that were accepted were attached, or `attach` refused them, and no other pipe
-- came up
pub record Accepting (most : ℕ) (s s' : SingleView) (reg reg' : Registry) : Type 0 where
  pub accepted : List (Result ℕ AttachError)
  pub attached : AreAttached s s' (ups (past_of s'.seen) + 1) accepted
  pub all : ups (past_of s'.seen) ≡ ups (past_of s.seen) + pipes_of accepted
  pub few : length accepted ≤ most
  pub halves : halves_of reg ≡ halves_of reg' + length accepted
  pub names_are : names reg' ≡ names reg
