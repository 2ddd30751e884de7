-- What a wire over WebSocket shows, and what ties it to its link and its frames.
use Rattle.std.specs.Prelude.{◌≡◌, ◌≤◌, ◌<◌, ◌+◌, ◌-◌, ◌++◌, ◌⊎◌, ℕ, Bool, true, false, cond, List, [], ◌∷◌, length, take, Some, None}
use Rattle.sp_base.specs.Outside.{Rose, grown}
use Rattle.sp_base.specs.Views.{LinkView}
use Rattle.sp_base.specs.Steps.{Moved, Went}
use Rattle.sp_base.specs.Wires.{scheme_number}
use Rattle.sp_msg.specs.Views.{WireView, WireName, OverLink}
use Rattle.sp_msg.specs.Marks.{wire_view, fresh_marks}
use Rattle.sp_msg.specs.declared.marks.WireMarks.{WireMarks}
use Rattle.sp_msg.specs.declared.wire.WireIn.{WireIn}
use Rattle.sp_msg.specs.declared.wire.WireIn.TheVariants as ins
use Rattle.sp_msg.specs.declared.wire.Room.{Room}
use Rattle.sp_msg.specs.declared.wire.Room.TheVariants as rooms
use Rattle.sp_msg.specs.declared.wire.WireFlush.{WireFlush}
use Rattle.sp_msg.specs.declared.wire.WireFlush.TheVariants as flushes
use Rattle.sp_ws.specs.Views.{FramesView, FrameOutletView, count_of, fresh_frames, HasLimits}
use Rattle.sp_msg.specs.Links.{WriteCounts}
use Rattle.sp_ws.specs.Outlets.{AreWithin, AreFrames, passed, Written, AtOnce}
use Rattle.sp_ws.specs.Sides.{role_of}
use Rattle.sp_ws.specs.declared.side.Side.{Side}
use Rattle.sp_ws.specs.Pulls.{IsIdle, PullReads, WasFed}
use Rattle.sp_ws.specs.declared.frames.LastResult.TheVariants as lasts

-- the bodies that were pulled: all that came, except the last one where it was lost
abbrev pub came_in : Bool → List (List ℕ) → List (List ℕ)
came_in lost came = cond lost (take (length came - 1) came) came

-- its name: the wire runs over this link, and `spent` is how often the link had had nothing to read or had taken
-- nothing
abbrev pub wire_name : LinkView → ℕ → ℕ → WireName
wire_name link max spent = OverLink link.place max (scheme_number link.scheme) spent None None

-- what the wire keeps; spent is how often the link had had nothing to read or had taken nothing when it was made
pub record WsState : Type 0 where
  pub link : LinkView
  pub frames : FramesView
  pub outlet : FrameOutletView
  pub lost : Bool
  pub max : ℕ
  pub spent : ℕ
  pub marks : WireMarks

abbrev pub ws_state : LinkView → FramesView → FrameOutletView → Bool → ℕ → ℕ → WireMarks → WsState
ws_state link frames outlet lost max spent marks = record { link = link; frames = frames; outlet = outlet; lost = lost; max = max; spent = spent; marks = marks }

-- the texts that were put are those that were sent and those that are not sent yet
abbrev pub wire_of : WsState → WireView
wire_of t = wire_view (wire_name t.link t.max t.spent) (Some (came_in t.lost t.frames.came)) (Some (t.frames.sent ++ t.outlet.held)) (count_of t.outlet) false t.marks

-- what the wire shows, what its link and its frames show, the texts that are not sent yet and the places of frames that
-- are not wholly written, and the maximum length of a body
pub record WsView : Type 0 where
  pub wire : WireView
  pub link : LinkView
  pub frames : FramesView
  pub outlet : FrameOutletView
  pub max : ℕ

abbrev pub ws_view : WsState → WsView
ws_view t = record { wire = wire_of t; link = t.link; frames = t.frames; outlet = t.outlet; max = t.max }

-- the peer closed, or the link ended
abbrev pub HasEnded : LinkView → FramesView → Type 0
HasEnded link f = (link.ended ≡ true) ⊎ (f.last ≡ lasts.Closed)

-- what came last is not a message by the rules of the wire
abbrev pub IsMalformed : ℕ → FramesView → Type 0
IsMalformed max f = ((f.last ≡ lasts.Text) ⊎ (f.last ≡ lasts.Broken)) ⊎ ((before : List (List ℕ)) × (body : List ℕ) × (f.came ≡ before ++ body ∷ []) × (max < length body))

pub record MarksHold (max : ℕ) (link : LinkView) (f : FramesView) (lost : Bool) (k : WireMarks) : Type 0 where
  pub link_open : k.is_open ≡ true → link.is_open ≡ true
  pub going : k.is_open ≡ true → (k.ended ≡ false) × (k.malformed ≡ false) × (lost ≡ false)
  pub at_end : k.ended ≡ true → HasEnded link f
  pub malformed : k.malformed ≡ true → IsMalformed max f
  pub faults : k.faults ≤ link.faults
  pub idles : k.idles ≤ link.idles
  pub stalls : k.stalls ≤ link.stalls
  pub refusals : k.refusals ≤ f.refusals

pub record Holds (t : WsState) : Type 0 where
  pub within : AreWithin (length t.frames.waiting) t.outlet.ends
  pub most : count_of t.outlet ≤ 16
  pub room : t.marks.is_ready ≡ true → count_of t.outlet < 16
  pub waited : t.spent ≤ t.link.idles + t.link.stalls
  pub marks : MarksHold t.max t.link t.frames t.lost t.marks

-- ---- what callers see, at every moment

pub record Tied (v : WsView) : Type 0 where
  pub spent : ℕ
  pub name : v.wire.name ≡ wire_name v.link v.max spent
  pub waited : spent ≤ v.link.idles + v.link.stalls
  pub outs : v.wire.outs ≡ Some (v.frames.sent ++ v.outlet.held)
  pub waits : v.wire.waits ≡ count_of v.outlet
  pub within : AreWithin (length v.frames.waiting) v.outlet.ends
  pub most : v.wire.waits ≤ 16
  pub came : v.wire.is_open ≡ true → v.wire.came ≡ Some v.frames.came
  pub faults : v.wire.faults ≤ v.link.faults
  pub idles : v.wire.idles ≤ v.link.idles
  pub stalls : v.wire.stalls ≤ v.link.stalls
  pub refusals : v.wire.refusals ≤ v.frames.refusals
  pub link_open : v.wire.is_open ≡ true → v.link.is_open ≡ true
  pub ended : v.wire.ended ≡ true → HasEnded v.link v.frames
  pub malformed : v.wire.malformed ≡ true → IsMalformed v.max v.frames

-- ---- calls

abbrev pub PullCause : WireIn → WsView → WsView → Type 0
PullCause (ins.Message m) old new = (length m.body ≤ new.max) × (new.frames.came ≡ old.frames.came ++ m.body ∷ [])
PullCause ins.NotYet old new = IsIdle new.frames × Rose old.link.idles new.link.idles
PullCause ins.Ended old new = (new.frames.last ≡ lasts.Closed) ⊎ ((new.link.ended ≡ true) × IsIdle new.frames)
PullCause ins.Malformed old new = IsMalformed new.max new.frames
PullCause ins.Failed old new = IsIdle new.frames × Rose old.link.faults new.link.faults
PullCause ins.Refused old new = ⊥
PullCause ins.NoMemory old new = Unit {0}

-- the counts of a link after reads and a write
pub record PullCounts (old new : LinkView) : Type 0 where
  pub faults : old.faults ≤ new.faults
  pub idles : old.idles ≤ new.idles
  pub stalls : old.stalls ≤ new.stalls

-- a pull sends nothing; what the link gave was fed; what the framing rules answer by themselves comes after what
-- waited, and goes to the link at once where no frame of a message waits; what the link took is a prefix of what waits
-- then; what came is what the crate that does the framing read
pub record WsPulled (result : WireIn) (old new : WsView) : Type 0 where
  pub cause : PullCause result old new
  pub piece : List ℕ
  pub took : List ℕ
  pub moved : Moved (grown old.link.came piece) (grown old.link.written took) old.link new.link
  pub fed : WasFed result piece old.frames new.frames
  pub counts : PullCounts old.link new.link
  pub replies : List ℕ
  pub waiting : old.frames.waiting ++ replies ≡ took ++ new.frames.waiting
  pub at_once : AtOnce (0 < length replies) old.outlet.ends took old.link new.link
  pub sent : new.frames.sent ≡ old.frames.sent
  pub outlet : new.outlet ≡ old.outlet
  pub max : new.max ≡ old.max
  pub reads : PullReads result old.frames new.frames
  pub role : new.frames.role ≡ old.frames.role

-- room and flush read nothing, and what was fed stays; what was not sent yet is sent, each message once, in order and
-- as one frame after what waited; what the link took is a prefix of what waits then; and of the places of frames those
-- are left that it did not reach
pub record WsWrote (old new : WsView) : Type 0 where
  pub gone : List (List ℕ)
  pub places : List ℕ
  pub bytes : List ℕ
  pub piece : List ℕ
  pub held : old.outlet.held ≡ gone ++ new.outlet.held
  pub sent : new.frames.sent ≡ old.frames.sent ++ gone
  pub frames : AreFrames old.frames.role (length old.frames.waiting) gone places bytes
  pub ends : new.outlet.ends ≡ passed (length piece) (old.outlet.ends ++ places)
  pub waiting : old.frames.waiting ++ bytes ≡ piece ++ new.frames.waiting
  pub went : Went piece old.link new.link
  pub counts : WriteCounts old.link new.link
  pub kept : new.frames ≡ record old.frames { waiting = new.frames.waiting; sent = new.frames.sent }
  pub max : new.max ≡ old.max

-- fewer than 16 wait: nothing is sent or written, one more message may be put, and all else is as it was
abbrev pub IsLeft : Room → WsView → WsView → Type 0
IsLeft room old new = (room ≡ rooms.Yes) × (new ≡ record old { wire = record old.wire { is_ready = true } })

-- 16 wait: room comes after all was written that the link takes
abbrev pub RoomMade : Room → WsView → WsView → Type 0
RoomMade rooms.Yes old new = (new.wire.waits < 16) × (((new.wire.waits ≡ 0) × Written new.frames old.link new.link) ⊎ Rose old.link.stalls new.link.stalls)
RoomMade rooms.Full old new = (new.wire.waits ≡ 16) × Rose old.link.stalls new.link.stalls
RoomMade rooms.Failed old new = Rose old.link.faults new.link.faults
RoomMade rooms.Refused old new = ⊥
RoomMade rooms.NoMemory old new = Unit {0}

pub record RoomCause (room : Room) (old new : WsView) : Type 0 where
  pub few : old.wire.waits < 16 → IsLeft room old new
  pub many : 16 ≤ old.wire.waits → RoomMade room old new

abbrev pub FlushCause : WireFlush → WsView → WsView → Type 0
FlushCause flushes.Empty old new = Written new.frames old.link new.link
FlushCause flushes.NotYet old new = Rose old.link.stalls new.link.stalls
FlushCause flushes.Failed old new = Rose old.link.faults new.link.faults
FlushCause flushes.Refused old new = ⊥
FlushCause flushes.NoMemory old new = Unit {0}

-- nothing was pulled or put, every call is lawful, these bytes were fed, and the crate that does the framing takes
-- messages and frames of at most `max` bytes
pub record IsNewWire (side : Side) (max : ℕ) (rest : List ℕ) (link : LinkView) (v : WsView) : Type 0 where
  pub link_is : v.link ≡ link
  pub max_is : v.max ≡ max
  pub frames : v.frames ≡ record (fresh_frames (role_of side) v.frames.config) { fed = rest }
  pub limits : HasLimits max v.frames.config
  pub wire : v.wire ≡ wire_view (wire_name link max (link.idles + link.stalls)) (Some []) (Some []) 0 false fresh_marks
  pub tied : Tied v
