-- What the marks say stays true over each call.
use Rattle.std.proofs.Common.{◌≡◌, ◌≤◌, ◌<◌, ◌⊎◌, ℕ, Bool, true, false, List, [], refl, ◌∙◌, arith}
use Rattle.sp_base.specs.Outside.{Rose}
use Rattle.sp_base.specs.Views.{LinkView}
use Rattle.sp_msg.specs.Marks.{one_more, marks_pulled, marks_roomed, marks_flushed, marks_shut}
use Rattle.sp_msg.specs.declared.marks.WireMarks.{WireMarks}
use Rattle.sp_msg.specs.declared.wire.WireIn.{WireIn}
use Rattle.sp_msg.specs.declared.wire.WireIn.TheVariants as ins
use Rattle.sp_msg.specs.declared.wire.Room.{Room}
use Rattle.sp_msg.specs.declared.wire.Room.TheVariants as rooms
use Rattle.sp_msg.specs.declared.wire.WireFlush.{WireFlush}
use Rattle.sp_msg.specs.declared.wire.WireFlush.TheVariants as flushes
use Rattle.sp_msg.specs.Links.{ReadCounts, WriteCounts}
use Rattle.sp_tcp.specs.Inlets.{PullResult}
use Rattle.sp_tcp.specs.Outlets.{FlushResult}
use Rattle.sp_tcp.specs.TcpWires.{MarksHold}
use Rattle.sp_base.specs.SpStream.{mark_of}
use Rattle.sp_base.specs.declared.framing.Framing.{Framing}

apart : (b : Bool) → b ≡ false → b ≡ true → ⊥
apart b e f = cc

never : false ≡ true → ⊥
never e = cc

-- ---- pulls

pub pulled_marks : (f : Framing) (result : WireIn) (max : ℕ) (l l2 : LinkView) (u u2 all : List ℕ) (k : WireMarks) → k.is_open ≡ true → MarksHold f max l u k → ReadCounts l l2 → l2.is_open ≡ l.is_open → PullResult (mark_of f) max result all u2 l l2 → MarksHold f max l2 u2 (marks_pulled result k)
pulled_marks f (ins.Message m) max l l2 u u2 all k o h c same a = record {
  link_open = (λ e. same ∙ h.link_open e);
  going = h.going;
  at_end = (λ e. absurd (apart k.ended (h.going o).0 e));
  bad = (λ e. absurd (apart k.malformed (h.going o).1 e));
  faults = omega (arith, h.faults, c.faults);
  idles = omega (arith, h.idles, c.idles);
  stalls = omega (arith, h.stalls, c.stalls);
  refusals = h.refusals;
}
pulled_marks f ins.NotYet max l l2 u u2 all k o h c same a = record {
  link_open = (λ e. same ∙ h.link_open e);
  going = h.going;
  at_end = (λ e. absurd (apart k.ended (h.going o).0 e));
  bad = (λ e. absurd (apart k.malformed (h.going o).1 e));
  faults = omega (arith, h.faults, c.faults);
  idles = omega (arith, h.idles, a.2);
  stalls = omega (arith, h.stalls, c.stalls);
  refusals = h.refusals;
}
pulled_marks f ins.Ended max l l2 u u2 all k o h c same a = record {
  link_open = (λ e. absurd (never e));
  going = (λ e. absurd (never e));
  at_end = (λ e. (a.2, a.1));
  bad = (λ e. absurd (apart k.malformed (h.going o).1 e));
  faults = omega (arith, h.faults, c.faults);
  idles = omega (arith, h.idles, c.idles);
  stalls = omega (arith, h.stalls, c.stalls);
  refusals = h.refusals;
}
pulled_marks f ins.Malformed max l l2 u u2 all k o h c same a = record {
  link_open = (λ e. absurd (never e));
  going = (λ e. absurd (never e));
  at_end = (λ e. absurd (apart k.ended (h.going o).0 e));
  bad = (λ e. a.1);
  faults = omega (arith, h.faults, c.faults);
  idles = omega (arith, h.idles, c.idles);
  stalls = omega (arith, h.stalls, c.stalls);
  refusals = h.refusals;
}
pulled_marks f ins.Failed max l l2 u u2 all k o h c same a = record {
  link_open = (λ e. absurd (never e));
  going = (λ e. absurd (never e));
  at_end = (λ e. absurd (apart k.ended (h.going o).0 e));
  bad = (λ e. absurd (apart k.malformed (h.going o).1 e));
  faults = omega (arith, h.faults, a.2);
  idles = omega (arith, h.idles, c.idles);
  stalls = omega (arith, h.stalls, c.stalls);
  refusals = h.refusals;
}
pulled_marks f ins.Refused max l l2 u u2 all k o h c same a = absurd a
pulled_marks f ins.NoMemory max l l2 u u2 all k o h c same a = record {
  link_open = (λ e. absurd (never e));
  going = (λ e. absurd (never e));
  at_end = (λ e. absurd (apart k.ended (h.going o).0 e));
  bad = (λ e. absurd (apart k.malformed (h.going o).1 e));
  faults = omega (arith, h.faults, c.faults);
  idles = omega (arith, h.idles, c.idles);
  stalls = omega (arith, h.stalls, c.stalls);
  refusals = h.refusals;
}

pub ready_pulled : (result : WireIn) (k : WireMarks) → (marks_pulled result k).is_ready ≡ k.is_ready
ready_pulled (ins.Message m) k = refl
ready_pulled ins.NotYet k = refl
ready_pulled ins.Ended k = refl
ready_pulled ins.Malformed k = refl
ready_pulled ins.Failed k = refl
ready_pulled ins.Refused k = refl
ready_pulled ins.NoMemory k = refl

-- ---- writes

-- after writes, with this room and this count of `Full` results
wrote_marks : (f : Framing) (max : ℕ) (l l2 : LinkView) (u : List ℕ) (k : WireMarks) → MarksHold f max l u k → WriteCounts l l2 → l2.is_open ≡ l.is_open → (is_ready : Bool) (fulls : ℕ) → MarksHold f max l2 u (record k { is_ready = is_ready; fulls = fulls })
wrote_marks f max l l2 u k h c same is_ready fulls = record {
  link_open = (λ e. same ∙ h.link_open e);
  going = h.going;
  at_end = (λ e. (c.ended ∙ (h.at_end e).0, (h.at_end e).1));
  bad = h.bad;
  faults = omega (arith, h.faults, c.faults);
  idles = omega (arith, h.idles, c.idles);
  stalls = omega (arith, h.stalls, c.stalls);
  refusals = h.refusals;
}

failed_marks : (f : Framing) (max : ℕ) (l l2 : LinkView) (u : List ℕ) (k : WireMarks) → MarksHold f max l u k → WriteCounts l l2 → Rose l.faults l2.faults → MarksHold f max l2 u (record k { is_open = false; faults = one_more k.faults })
failed_marks f max l l2 u k h c rose = record {
  link_open = (λ e. absurd (never e));
  going = (λ e. absurd (never e));
  at_end = (λ e. (c.ended ∙ (h.at_end e).0, (h.at_end e).1));
  bad = h.bad;
  faults = omega (arith, h.faults, rose);
  idles = omega (arith, h.idles, c.idles);
  stalls = omega (arith, h.stalls, c.stalls);
  refusals = h.refusals;
}

stalled_marks : (f : Framing) (max : ℕ) (l l2 : LinkView) (u : List ℕ) (k : WireMarks) → MarksHold f max l u k → WriteCounts l l2 → l2.is_open ≡ l.is_open → Rose l.stalls l2.stalls → MarksHold f max l2 u (record k { stalls = one_more k.stalls })
stalled_marks f max l l2 u k h c same rose = record {
  link_open = (λ e. same ∙ h.link_open e);
  going = h.going;
  at_end = (λ e. (c.ended ∙ (h.at_end e).0, (h.at_end e).1));
  bad = h.bad;
  faults = omega (arith, h.faults, c.faults);
  idles = omega (arith, h.idles, c.idles);
  stalls = omega (arith, h.stalls, rose);
  refusals = h.refusals;
}

pub flushed_marks : (f : Framing) (result : WireFlush) (max : ℕ) (l l2 : LinkView) (u : List ℕ) (w : List (List ℕ)) (k : WireMarks) → MarksHold f max l u k → WriteCounts l l2 → l2.is_open ≡ l.is_open → FlushResult result w l l2 → MarksHold f max l2 u (marks_flushed result k)
flushed_marks f flushes.Empty max l l2 u w k h c same a = wrote_marks f max l l2 u k h c same k.is_ready k.fulls
flushed_marks f flushes.NotYet max l l2 u w k h c same a = stalled_marks f max l l2 u k h c same a.1
flushed_marks f flushes.Failed max l l2 u w k h c same a = failed_marks f max l l2 u k h c a.1
flushed_marks f flushes.Refused max l l2 u w k h c same a = absurd a
flushed_marks f flushes.NoMemory max l l2 u w k h c same a = absurd a

pub ready_flushed : (result : WireFlush) (k : WireMarks) → (marks_flushed result k).is_ready ≡ k.is_ready
ready_flushed flushes.Empty k = refl
ready_flushed flushes.NotYet k = refl
ready_flushed flushes.Failed k = refl
ready_flushed flushes.Refused k = refl
ready_flushed flushes.NoMemory k = refl

-- why room returned this
abbrev pub RoomFacts : Room → ℕ → LinkView → LinkView → Type 0
RoomFacts rooms.Yes waits l l2 = (waits < 16) × ((waits ≡ 0) ⊎ Rose l.stalls l2.stalls)
RoomFacts rooms.Full waits l l2 = (16 ≤ waits) × Rose l.stalls l2.stalls
RoomFacts rooms.Failed waits l l2 = Rose l.faults l2.faults
RoomFacts rooms.Refused waits l l2 = ⊥
RoomFacts rooms.NoMemory waits l l2 = ⊥

pub roomed_marks : (f : Framing) (room : Room) (max : ℕ) (l l2 : LinkView) (u : List ℕ) (waits : ℕ) (k : WireMarks) → MarksHold f max l u k → WriteCounts l l2 → l2.is_open ≡ l.is_open → RoomFacts room waits l l2 → MarksHold f max l2 u (marks_roomed room k)
roomed_marks f rooms.Yes max l l2 u waits k h c same why = wrote_marks f max l l2 u k h c same true k.fulls
roomed_marks f rooms.Full max l l2 u waits k h c same why = wrote_marks f max l l2 u k h c same k.is_ready (one_more k.fulls)
roomed_marks f rooms.Failed max l l2 u waits k h c same why = failed_marks f max l l2 u k h c why
roomed_marks f rooms.Refused max l l2 u waits k h c same why = absurd why
roomed_marks f rooms.NoMemory max l l2 u waits k h c same why = absurd why

-- a wire that is ready has room for one more
pub ready_roomed : (room : Room) (l l2 : LinkView) (waits : ℕ) (k : WireMarks) → RoomFacts room waits l l2 → (k.is_ready ≡ true → waits < 16) → (marks_roomed room k).is_ready ≡ true → waits < 16
ready_roomed rooms.Yes l l2 waits k f h e = f.0
ready_roomed rooms.Full l l2 waits k f h e = h e
ready_roomed rooms.Failed l l2 waits k f h e = h e
ready_roomed rooms.Refused l l2 waits k f h e = absurd f
ready_roomed rooms.NoMemory l l2 waits k f h e = absurd f

-- ---- calls that write nothing

-- whether room was found and isn't used yet
pub ready_marks : (f : Framing) (max : ℕ) (l : LinkView) (u : List ℕ) (k : WireMarks) (is_ready : Bool) → MarksHold f max l u k → MarksHold f max l u (record k { is_ready = is_ready })
ready_marks f max l u k is_ready h = record {
  link_open = h.link_open;
  going = h.going;
  at_end = h.at_end;
  bad = h.bad;
  faults = h.faults;
  idles = h.idles;
  stalls = h.stalls;
  refusals = h.refusals;
}

pub shut_marks : (f : Framing) (max : ℕ) (l : LinkView) (u : List ℕ) (k : WireMarks) → MarksHold f max l u k → MarksHold f max (record l { is_open = false }) u (marks_shut k)
shut_marks f max l u k h = record {
  link_open = (λ e. absurd (never e));
  going = (λ e. absurd (never e));
  at_end = h.at_end;
  bad = h.bad;
  faults = h.faults;
  idles = h.idles;
  stalls = h.stalls;
  refusals = h.refusals;
}
