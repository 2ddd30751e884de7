-- What each result does to the marks of a wire, and how they stand in what it shows.
use Rattle.std.specs.Prelude.{◌+◌, ◌-◌, ◌^◌, ℕ, Bool, true, false, List, Option, min}
use Rattle.sp_msg.specs.Views.{WireName, WireView}
use Rattle.sp_msg.specs.declared.marks.WireMarks.{WireMarks}
use Rattle.sp_msg.specs.declared.wire.WireIn.{WireIn}
use Rattle.sp_msg.specs.declared.wire.WireIn.TheVariants as ins
use Rattle.sp_msg.specs.declared.wire.Room.{Room}
use Rattle.sp_msg.specs.declared.wire.Room.TheVariants as rooms
use Rattle.sp_msg.specs.declared.wire.WireFlush.{WireFlush}
use Rattle.sp_msg.specs.declared.wire.WireFlush.TheVariants as flushes

-- a count plus one, saturating
abbrev pub one_more : ℕ → ℕ
one_more n = min (n + 1) (2 ^ 64 - 1)

abbrev pub fresh_marks : WireMarks
fresh_marks = record { is_ready = false; is_open = true; ended = false; malformed = false; faults = 0; fulls = 0; idles = 0; stalls = 0; refusals = 0 }

abbrev pub marks_pulled : WireIn → WireMarks → WireMarks
marks_pulled (ins.Message m) k = k
marks_pulled ins.NotYet k = record k { idles = one_more k.idles }
marks_pulled ins.Ended k = record k { is_open = false; ended = true }
marks_pulled ins.Malformed k = record k { is_open = false; malformed = true }
marks_pulled ins.Failed k = record k { is_open = false; faults = one_more k.faults }
marks_pulled ins.Refused k = record k { is_open = false; refusals = one_more k.refusals }
marks_pulled ins.NoMemory k = record k { is_open = false }

abbrev pub marks_roomed : Room → WireMarks → WireMarks
marks_roomed rooms.Yes k = record k { is_ready = true }
marks_roomed rooms.Full k = record k { fulls = one_more k.fulls }
marks_roomed rooms.Failed k = record k { is_open = false; faults = one_more k.faults }
marks_roomed rooms.Refused k = record k { is_open = false; refusals = one_more k.refusals }
marks_roomed rooms.NoMemory k = record k { is_open = false }

abbrev pub marks_flushed : WireFlush → WireMarks → WireMarks
marks_flushed flushes.Empty k = k
marks_flushed flushes.NotYet k = record k { stalls = one_more k.stalls }
marks_flushed flushes.Failed k = record k { is_open = false; faults = one_more k.faults }
marks_flushed flushes.Refused k = record k { is_open = false; refusals = one_more k.refusals }
marks_flushed flushes.NoMemory k = record k { is_open = false }

abbrev pub marks_put : WireMarks → WireMarks
marks_put k = record k { is_ready = false }

abbrev pub marks_shut : WireMarks → WireMarks
marks_shut k = record k { is_ready = false; is_open = false }

-- what a wire with these marks shows
abbrev pub wire_view : WireName → Option (List (List ℕ)) → Option (List (List ℕ)) → ℕ → Bool → WireMarks → WireView
wire_view name came outs waits drains k = record {
  name = name;
  came = came;
  outs = outs;
  waits = waits;
  is_ready = k.is_ready;
  faults = k.faults;
  fulls = k.fulls;
  idles = k.idles;
  stalls = k.stalls;
  refusals = k.refusals;
  is_open = k.is_open;
  drains = drains;
  ended = k.ended;
  malformed = k.malformed;
}
