-- What a wire shows after a call, by its marks: each wire has to prove only what became of its name, its bytes and what
-- waits.
use Rattle.std.proofs.Common.{◌≡◌, ◌≤◌, ◌+◌, ℕ, Bool, true, false, List, Option, refl}
use Rattle.std.specs.Prelude.{◌||◌}
use Rattle.sp_msg.specs.Views.{MessageView, WireName, WireView, wire_text}
use Rattle.sp_msg.specs.Marks.{wire_view, marks_pulled, marks_roomed, marks_flushed, marks_put}
use Rattle.sp_msg.specs.Wires.{AfterPull, AfterRoom, AfterPut, AfterFlush, RoomAs, may_flush, with_text, came_after, IsBare}
use Rattle.sp_msg.specs.declared.marks.WireMarks.{WireMarks}
use Rattle.sp_msg.specs.declared.wire.WireIn.{WireIn}
use Rattle.sp_msg.specs.declared.wire.WireIn.TheVariants as ins
use Rattle.sp_msg.specs.declared.wire.Room.{Room}
use Rattle.sp_msg.specs.declared.wire.Room.TheVariants as rooms
use Rattle.sp_msg.specs.declared.wire.WireFlush.{WireFlush}
use Rattle.sp_msg.specs.declared.wire.WireFlush.TheVariants as flushes

-- an open wire may be flushed
pub open_flushes : (v : WireView) → v.is_open ≡ true → may_flush v ≡ true
open_flushes v e = elim v.drains as (λ d. d || v.is_open ≡ true) [ true ↦ refl | false ↦ e ]

pub after_pull : (result : WireIn) (n n' : WireName) (c c' o o' : Option (List (List ℕ))) (w w' : ℕ) (d : Bool) (k : WireMarks) → IsBare result → n' ≡ n → c' ≡ came_after result c → o' ≡ o → w' ≡ w → AfterPull result (wire_view n c o w d k) (wire_view n' c' o' w' d (marks_pulled result k))
after_pull (ins.Message m) n n' c c' o o' w w' d k bare ne ce oe we = (bare, λ i. wire_view (ne i) (ce i) (oe i) (we i) d k)
after_pull ins.NotYet n n' c c' o o' w w' d k bare ne ce oe we = λ i. wire_view (ne i) (ce i) (oe i) (we i) d (marks_pulled ins.NotYet k)
after_pull ins.Ended n n' c c' o o' w w' d k bare ne ce oe we = λ i. wire_view (ne i) (ce i) (oe i) (we i) d (marks_pulled ins.Ended k)
after_pull ins.Malformed n n' c c' o o' w w' d k bare ne ce oe we = λ i. wire_view (ne i) (ce i) (oe i) (we i) d (marks_pulled ins.Malformed k)
after_pull ins.Failed n n' c c' o o' w w' d k bare ne ce oe we = λ i. wire_view (ne i) (ce i) (oe i) (we i) d (marks_pulled ins.Failed k)
after_pull ins.Refused n n' c c' o o' w w' d k bare ne ce oe we = λ i. wire_view (ne i) (ce i) (oe i) (we i) d (marks_pulled ins.Refused k)
after_pull ins.NoMemory n n' c c' o o' w w' d k bare ne ce oe we = λ i. wire_view (ne i) (ce i) (oe i) (we i) d (marks_pulled ins.NoMemory k)

room_as : (result : Room) (n n' : WireName) (c c' o o' : Option (List (List ℕ))) (w w' : ℕ) (d : Bool) (k : WireMarks) → n' ≡ n → c' ≡ c → o' ≡ o → RoomAs result (wire_view n c o w d k) (wire_view n' c' o' w' d (marks_roomed result k))
room_as rooms.Yes n n' c c' o o' w w' d k ne ce oe = λ i. wire_view (ne i) (ce i) (oe i) w' d (marks_roomed rooms.Yes k)
room_as rooms.Full n n' c c' o o' w w' d k ne ce oe = λ i. wire_view (ne i) (ce i) (oe i) w' d (marks_roomed rooms.Full k)
room_as rooms.Failed n n' c c' o o' w w' d k ne ce oe = λ i. wire_view (ne i) (ce i) (oe i) w' d (marks_roomed rooms.Failed k)
room_as rooms.Refused n n' c c' o o' w w' d k ne ce oe = λ i. wire_view (ne i) (ce i) (oe i) w' d (marks_roomed rooms.Refused k)
room_as rooms.NoMemory n n' c c' o o' w w' d k ne ce oe = λ i. wire_view (ne i) (ce i) (oe i) w' d (marks_roomed rooms.NoMemory k)

pub after_room : (result : Room) (n n' : WireName) (c c' o o' : Option (List (List ℕ))) (w w' : ℕ) (d : Bool) (k : WireMarks) → n' ≡ n → c' ≡ c → o' ≡ o → w' ≤ w → AfterRoom result (wire_view n c o w d k) (wire_view n' c' o' w' d (marks_roomed result k))
after_room result n n' c c' o o' w w' d k ne ce oe le = record { shows = room_as result n n' c c' o o' w w' d k ne ce oe; waits = le }

-- nothing waits exactly where the result is Empty
abbrev pub WaitsAs : WireFlush → ℕ → Type 0
WaitsAs flushes.Empty w = w ≡ 0
WaitsAs flushes.NotYet w = 1 ≤ w
WaitsAs flushes.Failed w = 1 ≤ w
WaitsAs flushes.Refused w = 1 ≤ w
WaitsAs flushes.NoMemory w = 1 ≤ w

pub after_flush : (result : WireFlush) (n n' : WireName) (c c' o o' : Option (List (List ℕ))) (w w' : ℕ) (d : Bool) (k : WireMarks) → n' ≡ n → c' ≡ c → o' ≡ o → w' ≤ w → WaitsAs result w' → AfterFlush result (wire_view n c o w d k) (wire_view n' c' o' w' d (marks_flushed result k))
after_flush flushes.Empty n n' c c' o o' w w' d k ne ce oe le as_is = record { shows = (λ i. wire_view (ne i) (ce i) (oe i) w' d k, as_is); waits = le }
after_flush flushes.NotYet n n' c c' o o' w w' d k ne ce oe le as_is = record { shows = (λ i. wire_view (ne i) (ce i) (oe i) w' d (marks_flushed flushes.NotYet k), as_is); waits = le }
after_flush flushes.Failed n n' c c' o o' w w' d k ne ce oe le as_is = record { shows = (λ i. wire_view (ne i) (ce i) (oe i) w' d (marks_flushed flushes.Failed k), as_is); waits = le }
after_flush flushes.Refused n n' c c' o o' w w' d k ne ce oe le as_is = record { shows = (λ i. wire_view (ne i) (ce i) (oe i) w' d (marks_flushed flushes.Refused k), as_is); waits = le }
after_flush flushes.NoMemory n n' c c' o o' w w' d k ne ce oe le as_is = record { shows = (λ i. wire_view (ne i) (ce i) (oe i) w' d (marks_flushed flushes.NoMemory k), as_is); waits = le }

pub after_put : (m : MessageView) (n : WireName) (c o o' : Option (List (List ℕ))) (w w' : ℕ) (d : Bool) (k : WireMarks) → o' ≡ with_text o (wire_text m) → w ≤ w' → w' ≤ w + 1 → AfterPut m (wire_view n c o w d k) (wire_view n c o' w' d (marks_put k))
after_put m n c o o' w w' d k oe low high = record { shows = (λ i. wire_view n c (oe i) w' d (marks_put k)); low = low; high = high }
