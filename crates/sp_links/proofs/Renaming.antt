-- The calls of a wire under another name.
use Rattle.std.proofs.Common.{◌≡◌, ap}
use Rattle.sp_base.specs.declared.role.Role.{Role}
use Rattle.sp_msg.specs.Views.{MessageView, WireView}
use Rattle.sp_msg.specs.Wires.{AfterPull, RoomAs, AfterRoom, AfterPut, FlushedAs, AfterFlush, AfterShut}
use Rattle.sp_msg.specs.declared.wire.WireIn.{WireIn}
use Rattle.sp_msg.specs.declared.wire.WireIn.TheVariants as ins
use Rattle.sp_msg.specs.declared.wire.Room.{Room}
use Rattle.sp_msg.specs.declared.wire.Room.TheVariants as rooms
use Rattle.sp_msg.specs.declared.wire.WireFlush.{WireFlush}
use Rattle.sp_msg.specs.declared.wire.WireFlush.TheVariants as flushes
use Rattle.sp_links.specs.declared.way.Way.{Way}
use Rattle.sp_links.specs.Opened.{renamed}

module _ (role : Role) (way : Way) (old new : WireView) where
  pub pulls : (returned : WireIn) → AfterPull returned old new → AfterPull returned (renamed role way old) (renamed role way new)
  pulls (ins.Message m) x = (x.0, ap (renamed role way) x.1)
  pulls ins.NotYet x = ap (renamed role way) x
  pulls ins.Ended x = ap (renamed role way) x
  pulls ins.Malformed x = ap (renamed role way) x
  pulls ins.Failed x = ap (renamed role way) x
  pulls ins.Refused x = ap (renamed role way) x
  pulls ins.NoMemory x = ap (renamed role way) x

  room_as : (returned : Room) → RoomAs returned old new → RoomAs returned (renamed role way old) (renamed role way new)
  room_as rooms.Yes x = ap (renamed role way) x
  room_as rooms.Full x = ap (renamed role way) x
  room_as rooms.Failed x = ap (renamed role way) x
  room_as rooms.Refused x = ap (renamed role way) x
  room_as rooms.NoMemory x = ap (renamed role way) x

  pub asks_room : (returned : Room) → AfterRoom returned old new → AfterRoom returned (renamed role way old) (renamed role way new)
  asks_room returned x = record { shows = room_as returned x.shows; waits = x.waits }

  pub puts : (m : MessageView) → AfterPut m old new → AfterPut m (renamed role way old) (renamed role way new)
  puts m x = record { shows = ap (renamed role way) x.shows; low = x.low; high = x.high }

  flushed_as : (returned : WireFlush) → FlushedAs returned old new → FlushedAs returned (renamed role way old) (renamed role way new)
  flushed_as flushes.Empty x = (ap (renamed role way) x.0, x.1)
  flushed_as flushes.NotYet x = (ap (renamed role way) x.0, x.1)
  flushed_as flushes.Failed x = (ap (renamed role way) x.0, x.1)
  flushed_as flushes.Refused x = (ap (renamed role way) x.0, x.1)
  flushed_as flushes.NoMemory x = (ap (renamed role way) x.0, x.1)

  pub flushes_on : (returned : WireFlush) → AfterFlush returned old new → AfterFlush returned (renamed role way old) (renamed role way new)
  flushes_on returned x = record { shows = flushed_as returned x.shows; waits = x.waits }

  pub shuts : AfterShut old new → AfterShut (renamed role way old) (renamed role way new)
  shuts x = ap (renamed role way) x
