-- What sending and writing do to what waits.
use Rattle.std.specs.Prelude.{◌≡◌, ◌≤◌, ◌<◌, ◌+◌, ◌-◌, ◌++◌, ◌⊎◌, ℕ, cond, nat_lt, List, [], ◌∷◌, length}
use Rattle.sp_base.specs.Outside.{Rose}
use Rattle.sp_base.specs.Views.{LinkView}
use Rattle.sp_base.specs.Steps.{Went}
use Rattle.sp_base.specs.declared.outside.LinkWrite.{LinkWrite}
use Rattle.sp_base.specs.declared.outside.LinkWrite.TheVariants as writes
use Rattle.sp_msg.specs.declared.wire.Room.{Room}
use Rattle.sp_msg.specs.declared.wire.Room.TheVariants as rooms
use Rattle.sp_msg.specs.declared.wire.WireFlush.{WireFlush}
use Rattle.sp_msg.specs.declared.wire.WireFlush.TheVariants as flushes
use Rattle.sp_ws.specs.Views.{FramesView, FrameOutletView, count_of}
use Rattle.websocket.specs.declared.protocol.config.Role.{Role}
use Rattle.sp_ws.specs.Frames.{IsFrame, AfterSend}
use Rattle.sp_msg.specs.Links.{WriteCounts}
use Rattle.sp_msg.specs.Wires.{RoomAfter}
use Rattle.sp_ws.specs.declared.frames.FrameOut.{FrameOut}
use Rattle.sp_ws.specs.declared.frames.FrameOut.TheVariants as outs

-- the places that are left after the first n bytes went
abbrev pub passed : ℕ → List ℕ → List ℕ
passed n [] = []
passed n (e ∷ es) = cond (nat_lt n e) ((e - n) ∷ passed n es) (passed n es)

-- each place is after at least one of the first `long` bytes
abbrev pub AreWithin : ℕ → List ℕ → Type 0
AreWithin long [] = Unit {0}
AreWithin long (e ∷ es) = ((0 < e) × (e ≤ long)) × AreWithin long es

-- the bytes are the frames of these bodies, one after another; they end at these places, where the first begins at the
-- place `at`
abbrev pub AreFrames : Role → ℕ → List (List ℕ) → List ℕ → List ℕ → Type 0
AreFrames role at [] [] s = s ≡ []
AreFrames role at [] (p ∷ ps) s = ⊥
AreFrames role at (body ∷ bodies) [] s = ⊥
AreFrames role at (body ∷ bodies) (p ∷ ps) s = (frame : List ℕ) × (rest : List ℕ) × (s ≡ frame ++ rest) × IsFrame role frame body × (p ≡ at + length frame) × AreFrames role p bodies ps rest

-- the oldest text that was not sent was given to the frames
abbrev pub GaveOldest : FrameOut → FrameOutletView → FrameOutletView → FramesView → FramesView → Type 0
GaveOldest outs.Done old new f f' = (body : List ℕ) × (old.held ≡ body ∷ new.held) × (new.ends ≡ old.ends ++ length f'.waiting ∷ []) × AfterSend outs.Done body f f'
GaveOldest outs.Refused old new f f' = ⊥
GaveOldest outs.NoMemory old new f f' = (new ≡ old) × (f' ≡ f)

-- the texts that are no longer kept were sent, each once and in order; nothing else of the frames changes
pub record Gave (old new : FrameOutletView) (f f' : FramesView) : Type 0 where
  pub gone : List (List ℕ)
  pub places : List ℕ
  pub bytes : List ℕ
  pub held : old.held ≡ gone ++ new.held
  pub ends : new.ends ≡ old.ends ++ places
  pub waiting : f'.waiting ≡ f.waiting ++ bytes
  pub frames : AreFrames f.role (length f.waiting) gone places bytes
  pub within : AreWithin (length f.waiting) old.ends → AreWithin (length f'.waiting) new.ends
  pub sent : f'.sent ≡ f.sent ++ gone
  pub kept : f' ≡ record f { waiting = f'.waiting; sent = f'.sent }

abbrev pub GaveAll : FrameOut → FrameOutletView → FramesView → FramesView → Type 0
GaveAll outs.Done new f f' = (new.held ≡ []) × (f'.refusals ≡ f.refusals)
GaveAll outs.Refused new f f' = ⊥
GaveAll outs.NoMemory new f f' = (0 < length new.held) × (f'.refusals ≡ f.refusals)

-- what the link took is a prefix of what waited
pub record Wrote (old new : FrameOutletView) (f f' : FramesView) (link link' : LinkView) : Type 0 where
  pub piece : List ℕ
  pub waiting : f.waiting ≡ piece ++ f'.waiting
  pub frames : f' ≡ record f { waiting = f'.waiting }
  pub held : new.held ≡ old.held
  pub ends : new.ends ≡ passed (length piece) old.ends
  pub went : Went piece link link'
  pub counts : WriteCounts link link'

-- how one write ended
abbrev pub WroteOnce : LinkWrite → FrameOutletView → FrameOutletView → FramesView → FramesView → LinkView → LinkView → Type 0
WroteOnce (writes.Took n) old new f f' link link' = (wrote : Wrote old new f f' link link') × (0 < length wrote.piece)
WroteOnce writes.NotYet old new f f' link link' = Wrote old new f f' link link' × Rose link.stalls link'.stalls
WroteOnce writes.Failed old new f f' link link' = Wrote old new f f' link link' × Rose link.faults link'.faults

-- nothing waits for the link, or it took no more
abbrev pub Written : FramesView → LinkView → LinkView → Type 0
Written f' link link' = (f'.waiting ≡ []) ⊎ Rose link.stalls link'.stalls ⊎ Rose link.faults link'.faults

-- how the writing ended
abbrev pub WroteAll : WireFlush → FramesView → LinkView → LinkView → Type 0
WroteAll flushes.Empty f' link link' = f'.waiting ≡ []
WroteAll flushes.NotYet f' link link' = Rose link.stalls link'.stalls
WroteAll flushes.Failed f' link link' = Rose link.faults link'.faults
WroteAll flushes.Refused f' link link' = ⊥
WroteAll flushes.NoMemory f' link link' = ⊥

abbrev pub FlushResult : WireFlush → ℕ → FramesView → FramesView → LinkView → LinkView → Type 0
FlushResult flushes.Empty waits f f' link link' = (waits ≡ 0) × (f'.refusals ≡ f.refusals) × Written f' link link'
FlushResult flushes.NotYet waits f f' link link' = (0 < waits) × Rose link.stalls link'.stalls × (f'.refusals ≡ f.refusals)
FlushResult flushes.Failed waits f f' link link' = (0 < waits) × Rose link.faults link'.faults × (f'.refusals ≡ f.refusals)
FlushResult flushes.Refused waits f f' link link' = ⊥
FlushResult flushes.NoMemory waits f f' link link' = (0 < waits) × (f'.refusals ≡ f.refusals)

-- what was not sent yet was sent, and then what the link takes was written
pub record FlushedFrom (result : WireFlush) (old new : FrameOutletView) (f f' : FramesView) (link link' : LinkView) : Type 0 where
  pub mid : FrameOutletView
  pub framed : FramesView
  pub gave : Gave old mid f framed
  pub wrote : Wrote mid new framed f' link link'
  pub returned : FlushResult result (count_of new) f f' link link'

-- fewer than 16 wait, and nothing is done
pub record IsLeft (room : Room) (old new : FrameOutletView) (f f' : FramesView) (link link' : LinkView) : Type 0 where
  pub few : count_of old < 16
  pub returned : room ≡ rooms.Yes
  pub outlet : new ≡ old
  pub frames : f' ≡ f
  pub link_is : link' ≡ link

-- 16 wait, and what was not sent yet is sent and what the link takes is written first
pub record IsMade (room : Room) (old new : FrameOutletView) (f f' : FramesView) (link link' : LinkView) : Type 0 where
  pub many : 16 ≤ count_of old
  pub ended : WireFlush
  pub flushed : FlushedFrom ended old new f f' link link'
  pub returned : RoomAfter ended (count_of new) room

abbrev pub RoomFrom : Room → FrameOutletView → FrameOutletView → FramesView → FramesView → LinkView → LinkView → Type 0
RoomFrom room old new f f' link link' = IsLeft room old new f f' link link' ⊎ IsMade room old new f f' link link'

-- ---- replies

-- replies that are new go to the link at once, in one write, where no frame of a message waits before them; else
-- nothing is written. `took` is what it took
pub record AtOnce (is_new : Type 0) (ends took : List ℕ) (link link' : LinkView) : Type 0 where
  pub tried : is_new → ends ≡ [] → (0 < length took) ⊎ Rose link.stalls link'.stalls ⊎ Rose link.faults link'.faults
  pub none_new : (is_new → ⊥) → (took ≡ []) × (link'.stalls ≡ link.stalls)
  pub none_first : 0 < length ends → (took ≡ []) × (link'.stalls ≡ link.stalls)

-- `had` bytes waited before the replies came
pub record Answered (had : ℕ) (old new : FrameOutletView) (f f' : FramesView) (link link' : LinkView) : Type 0 where
  pub took : List ℕ
  pub outlet : new ≡ old
  pub waiting : f.waiting ≡ took ++ f'.waiting
  pub frames : f' ≡ record f { waiting = f'.waiting }
  pub went : Went took link link'
  pub counts : WriteCounts link link'
  pub at_once : AtOnce (had < length f.waiting) old.ends took link link'
