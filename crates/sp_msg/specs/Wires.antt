-- What each call of a wire returns, and what it does to what the wire shows.
use Rattle.std.specs.Prelude.{◌≡◌, ◌≤◌, ◌<◌, ◌⊎◌, ◌+◌, ◌++◌, ◌||◌, ℕ, Bool, true, false, List, [], ◌∷◌, Option, Some, None}
use Rattle.sp_msg.specs.Views.{MessageView, WireView, wire_text}
use Rattle.sp_msg.specs.Marks.{one_more}
use Rattle.sp_msg.specs.declared.wire.WireIn.{WireIn}
use Rattle.sp_msg.specs.declared.wire.WireIn.TheVariants as ins
use Rattle.sp_msg.specs.declared.wire.Room.{Room}
use Rattle.sp_msg.specs.declared.wire.Room.TheVariants as rooms
use Rattle.sp_msg.specs.declared.wire.WireFlush.{WireFlush}
use Rattle.sp_msg.specs.declared.wire.WireFlush.TheVariants as flushes

-- a flush is lawful
abbrev pub may_flush : WireView → Bool
may_flush v = v.drains || v.is_open

-- texts that are told or not, with one more
abbrev pub with_text : Option (List (List ℕ)) → List ℕ → Option (List (List ℕ))
with_text None text = None
with_text (Some texts) text = Some (texts ++ text ∷ [])

-- after every result but a message and NotYet only `shut` is lawful
abbrev pub AfterPull : WireIn → WireView → WireView → Type 0
AfterPull (ins.Message m) old new = (m.header ≡ []) × (new ≡ record old { came = with_text old.came m.body })
AfterPull ins.NotYet old new = new ≡ record old { idles = one_more old.idles }
AfterPull ins.Ended old new = new ≡ record old { is_open = false; ended = true }
AfterPull ins.Malformed old new = new ≡ record old { is_open = false; malformed = true }
AfterPull ins.Failed old new = new ≡ record old { is_open = false; faults = one_more old.faults }
AfterPull ins.Refused old new = new ≡ record old { is_open = false; refusals = one_more old.refusals }
AfterPull ins.NoMemory old new = new ≡ record old { is_open = false }

-- room was found, or not; before that, as much was written as the link took
abbrev pub RoomAs : Room → WireView → WireView → Type 0
RoomAs rooms.Yes old new = new ≡ record old { waits = new.waits; is_ready = true }
RoomAs rooms.Full old new = new ≡ record old { waits = new.waits; fulls = one_more old.fulls }
RoomAs rooms.Failed old new = new ≡ record old { waits = new.waits; is_open = false; faults = one_more old.faults }
RoomAs rooms.Refused old new = new ≡ record old { waits = new.waits; is_open = false; refusals = one_more old.refusals }
RoomAs rooms.NoMemory old new = new ≡ record old { waits = new.waits; is_open = false }

pub record AfterRoom (result : Room) (old new : WireView) : Type 0 where
  pub shows : RoomAs result old new
  pub waits : new.waits ≤ old.waits

-- the message is the last of those that were put; at most one more waits
pub record AfterPut (m : MessageView) (old new : WireView) : Type 0 where
  pub shows : new ≡ record old { outs = with_text old.outs (wire_text m); is_ready = false; waits = new.waits }
  pub low : old.waits ≤ new.waits
  pub high : new.waits ≤ old.waits + 1

abbrev pub FlushedAs : WireFlush → WireView → WireView → Type 0
FlushedAs flushes.Empty old new = (new ≡ record old { waits = new.waits }) × (new.waits ≡ 0)
FlushedAs flushes.NotYet old new = (new ≡ record old { waits = new.waits; stalls = one_more old.stalls }) × (1 ≤ new.waits)
FlushedAs flushes.Failed old new = (new ≡ record old { waits = new.waits; is_open = false; faults = one_more old.faults }) × (1 ≤ new.waits)
FlushedAs flushes.Refused old new = (new ≡ record old { waits = new.waits; is_open = false; refusals = one_more old.refusals }) × (1 ≤ new.waits)
FlushedAs flushes.NoMemory old new = (new ≡ record old { waits = new.waits; is_open = false }) × (1 ≤ new.waits)

-- Empty exactly where nothing waits after the call
pub record AfterFlush (result : WireFlush) (old new : WireView) : Type 0 where
  pub shows : FlushedAs result old new
  pub waits : new.waits ≤ old.waits

-- what shows the wire's end stays; each wire says whether it still drains
abbrev pub AfterShut : WireView → WireView → Type 0
AfterShut old new = new ≡ record old { is_ready = false; is_open = false; drains = new.drains }

-- the bodies that were pulled, after this result
abbrev pub came_after : WireIn → Option (List (List ℕ)) → Option (List (List ℕ))
came_after (ins.Message m) came = with_text came m.body
came_after ins.NotYet came = came
came_after ins.Ended came = came
came_after ins.Malformed came = came
came_after ins.Failed came = came
came_after ins.Refused came = came
came_after ins.NoMemory came = came

-- a message that was pulled has no header
abbrev pub IsBare : WireIn → Type 0
IsBare (ins.Message m) = m.header ≡ []
IsBare ins.NotYet = Unit {0}
IsBare ins.Ended = Unit {0}
IsBare ins.Malformed = Unit {0}
IsBare ins.Failed = Unit {0}
IsBare ins.Refused = Unit {0}
IsBare ins.NoMemory = Unit {0}

-- what `room` returns, by how the writing ended and how many messages are not wholly written after it
abbrev pub RoomAfter : WireFlush → ℕ → Room → Type 0
RoomAfter flushes.Empty waits room = room ≡ rooms.Yes
RoomAfter flushes.NotYet waits room = ((waits < 16) × (room ≡ rooms.Yes)) ⊎ ((16 ≤ waits) × (room ≡ rooms.Full))
RoomAfter flushes.Failed waits room = room ≡ rooms.Failed
RoomAfter flushes.Refused waits room = room ≡ rooms.Refused
RoomAfter flushes.NoMemory waits room = room ≡ rooms.NoMemory
