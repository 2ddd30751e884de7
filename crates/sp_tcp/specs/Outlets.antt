-- What writing does to what waits.
use Rattle.std.specs.Prelude.{◌≡◌, ◌≤◌, ◌<◌, ◌+◌, ◌^◌, ◌++◌, ◌⊎◌, ℕ, List, [], ◌∷◌, length, take, drop}
use Rattle.sp_base.specs.SpIpc.{marked, marked_all}
use Rattle.sp_tcp.specs.Marked.{head_of}
use Rattle.sp_base.specs.Outside.{Rose, IsPrefix}
use Rattle.sp_base.specs.Views.{LinkView}
use Rattle.sp_base.specs.Steps.{Went, Quiet, AfterWrite}
use Rattle.sp_base.specs.declared.outside.LinkWrite.{LinkWrite}
use Rattle.sp_base.specs.declared.outside.LinkWrite.TheVariants as writes
use Rattle.sp_msg.specs.Views.{MessageView, wire_text}
use Rattle.sp_msg.specs.declared.wire.Room.{Room}
use Rattle.sp_msg.specs.declared.wire.Room.TheVariants as rooms
use Rattle.sp_msg.specs.declared.wire.WireFlush.{WireFlush}
use Rattle.sp_msg.specs.declared.wire.WireFlush.TheVariants as flushes
use Rattle.sp_tcp.specs.Views.{OutletView}
use Rattle.sp_msg.specs.Links.{WriteCounts}
use Rattle.sp_msg.specs.Wires.{RoomAfter}

-- a part of the first frame, and not all of it
abbrev pub SentWithin : List ℕ → ℕ → List (List ℕ) → Type 0
SentWithin mark sent [] = sent ≡ 0
SentWithin mark sent (t ∷ rest) = sent < head_of mark + length t

-- nothing, or all that is left of the message's frame
abbrev pub IsLongRest : List ℕ → MessageView → ℕ → List ℕ → Type 0
IsLongRest mark m sent rest = 0 < length rest → (drop sent (marked mark (wire_text m)) ≡ rest) × (sent + length rest ≡ head_of mark + length (wire_text m))

-- of the frames' first bytes, those of whole frames are passed
pub record Passed (mark : List ℕ) (written : ℕ) (old new : List (List ℕ)) (left : ℕ) : Type 0 where
  pub gone : List (List ℕ)
  pub is : old ≡ gone ++ new
  pub text : take written (marked_all mark old) ≡ marked_all mark gone ++ take left (marked_all mark new)

-- one write of a prefix of what is not written
pub record WrotePrefix (mark : List ℕ) (result : LinkWrite) (o : OutletView) (link link' : LinkView) : Type 0 where
  pub piece : List ℕ
  pub prefix : IsPrefix piece (drop o.sent (marked_all mark o.waiting))
  pub few : o.sent + length piece < 2 ^ 64
  pub within : SentWithin mark o.sent o.waiting
  pub wrote : AfterWrite result piece link link'

-- the texts that are gone are wholly written, and a part of the first of the others
pub record Wrote (mark : List ℕ) (old new : OutletView) (link link' : LinkView) : Type 0 where
  pub gone : List (List ℕ)
  pub piece : List ℕ
  pub left : old.waiting ≡ gone ++ new.waiting
  pub text : take old.sent (marked_all mark old.waiting) ++ piece ≡ marked_all mark gone ++ take new.sent (marked_all mark new.waiting)
  pub went : Went piece link link'
  pub counts : WriteCounts link link'

abbrev pub WrotePiece : List ℕ → LinkWrite → OutletView → OutletView → LinkView → LinkView → Type 0
WrotePiece mark (writes.Took n) old new link link' = SentWithin mark new.sent new.waiting × ((wrote : Wrote mark old new link link') × (0 < length wrote.piece))
WrotePiece mark writes.NotYet old new link link' = (new ≡ old) × Quiet link link' × WriteCounts link link' × Rose link.stalls link'.stalls
WrotePiece mark writes.Failed old new link link' = (new ≡ old) × Quiet link link' × WriteCounts link link' × Rose link.faults link'.faults

abbrev pub FlushResult : WireFlush → List (List ℕ) → LinkView → LinkView → Type 0
FlushResult flushes.Empty waiting link link' = waiting ≡ []
FlushResult flushes.NotYet waiting link link' = (0 < length waiting) × Rose link.stalls link'.stalls
FlushResult flushes.Failed waiting link link' = (0 < length waiting) × Rose link.faults link'.faults
FlushResult flushes.Refused waiting link link' = ⊥
FlushResult flushes.NoMemory waiting link link' = ⊥

pub record FlushedFrom (mark : List ℕ) (result : WireFlush) (old new : OutletView) (link link' : LinkView) : Type 0 where
  pub within : SentWithin mark new.sent new.waiting
  pub wrote : Wrote mark old new link link'
  pub returned : FlushResult result new.waiting link link'

-- fewer than 16 wait, and nothing is done
pub record IsLeft (room : Room) (old new : OutletView) (link link' : LinkView) : Type 0 where
  pub few : length old.waiting < 16
  pub returned : room ≡ rooms.Yes
  pub outlet : new ≡ old
  pub link_is : link' ≡ link

-- 16 wait, and what the link takes is written first
pub record IsMade (mark : List ℕ) (room : Room) (old new : OutletView) (link link' : LinkView) : Type 0 where
  pub many : 16 ≤ length old.waiting
  pub ended : WireFlush
  pub flushed : FlushedFrom mark ended old new link link'
  pub returned : RoomAfter ended (length new.waiting) room

abbrev pub RoomFrom : List ℕ → Room → OutletView → OutletView → LinkView → LinkView → Type 0
RoomFrom mark room old new link link' = IsLeft room old new link link' ⊎ IsMade mark room old new link link'
