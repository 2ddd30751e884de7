-- What the writing of a wire over a link gives, and what put and shut do.
use Rattle.std.proofs.Common.{◌≡◌, ◌≤◌, ◌<◌, ◌+◌, ◌^◌, ◌++◌, ℕ, true, false, List, [], ◌∷◌, length, refl, sym, ap, subst, ◌∙◌, inl, inr, arith}
use Rattle.std.proofs.lemmas.List.{length-append}
use Rattle.sp_base.specs.SpTcp.{Fit}
use Rattle.sp_base.specs.Outside.{Told}
use Rattle.sp_base.specs.SpStream.{framing_for, mark_of}
use Rattle.sp_base.proofs.Shows.{Fit-append}
use Rattle.sp_base.specs.Views.{LinkView}
use Rattle.sp_base.specs.Steps.{AfterShut as LinkShut}
use Rattle.sp_base.specs.Wires.{OverLink, scheme_number}
use Rattle.sp_msg.specs.Views.{MessageView, wire_text}
use Rattle.sp_msg.specs.Marks.{marks_roomed, marks_flushed, marks_put, marks_shut}
use Rattle.sp_msg.specs.Wires.{AfterRoom, AfterFlush, AfterPut, AfterShut, with_text}
use Rattle.sp_msg.specs.declared.marks.WireMarks.{WireMarks}
use Rattle.sp_msg.specs.declared.wire.Room.{Room}
use Rattle.sp_msg.specs.declared.wire.Room.TheVariants as rooms
use Rattle.sp_msg.specs.declared.wire.WireFlush.{WireFlush}
use Rattle.sp_msg.specs.declared.wire.WireFlush.TheVariants as flushes
use Rattle.sp_msg.proofs.Shown.{WaitsAs, after_room, after_flush, after_put}
use Rattle.sp_tcp.specs.Views.{OutletView}
use Rattle.sp_tcp.specs.Outlets.{SentWithin, Wrote, FlushResult, FlushedFrom, IsLeft, IsMade, RoomFrom}
use Rattle.sp_msg.specs.Wires.{RoomAfter}
use Rattle.sp_tcp.specs.TcpWires.{greatest, told_number, taken_in, put_in, ReadsAs, WritesAs, MarksHold, TcpState, wire_name, wire_of, tcp_view, Holds, Framed, TcpWrote, RoomMade, RoomCause, FlushCause}
use Rattle.sp_tcp.proofs.MarksKept.{RoomFacts, flushed_marks, roomed_marks, ready_marks, shut_marks, ready_flushed, ready_roomed}
use Rattle.sp_tcp.proofs.Framing.{framed_text, Fit-apart, told_writes, own_on, put_on, told_more, put_more}
use Rattle.sp_tcp.proofs.Framed.{framed}
use Rattle.sp_tcp.proofs.Writes.{went_none, wrote_counts_refl}

-- the state with another link, another outlet and other marks
abbrev pub with_write : TcpState → LinkView → OutletView → WireMarks → TcpState
with_write t l o k = record { framing = t.framing; link = l; unread = t.unread; waiting = o.waiting; sent = o.sent; max = t.max; spent = t.spent; marks = k }

abbrev pub outlet_in : TcpState → OutletView
outlet_in t = record { waiting = t.waiting; sent = t.sent }

-- ---- what writing keeps

fewer : (t : TcpState) (l : LinkView) (o : OutletView) → Wrote (mark_of t.framing) (outlet_in t) o t.link l → length o.waiting ≤ length t.waiting
fewer t l o w = omega (arith, ap length w.left, length-append w.gone o.waiting)

-- fewer wait than before, so a wire that was ready still has room
still_room : (t : TcpState) (l : LinkView) (o : OutletView) → Holds t → Wrote (mark_of t.framing) (outlet_in t) o t.link l → t.marks.is_ready ≡ true → length o.waiting < 16
still_room t l o h w e = omega (arith, h.room e, fewer t l o w)

write_holds : (t : TcpState) (l : LinkView) (o : OutletView) (k : WireMarks) → Holds t → Wrote (mark_of t.framing) (outlet_in t) o t.link l → SentWithin (mark_of t.framing) o.sent o.waiting → (k.is_ready ≡ true → length o.waiting < 16) → MarksHold t.framing t.max l t.unread k → Holds (with_write t l o k)
write_holds t l o k h w within room marks =
    let parts = Fit-apart greatest w.gone o.waiting (subst (Fit greatest) w.left h.fit) in
    record {
      framed_by = h.framed_by ∙ ap framing_for (sym w.went.scheme);
      reads = subst (λ x. Told x (ReadsAs t.framing t.max t.unread)) (sym w.went.came) h.reads;
      writes = told_writes t.framing t.waiting o.waiting w.gone t.sent o.sent w.piece t.link.written l.written parts.0 (framed_text t.framing t.sent o.sent t.waiting o.waiting w.gone w.piece w.text) w.went.written h.writes;
      within = within;
      fit = parts.1;
      small = h.small;
      most = omega (arith, fewer t l o w, h.most);
      room = room;
      waited = omega (arith, h.waited, w.counts.idles, w.counts.stalls);
      marks = marks;
    }

record Kept (t : TcpState) (l : LinkView) (o : OutletView) : Type 0 where
  name : wire_name l t.max t.spent ≡ wire_name t.link t.max t.spent
  came : taken_in t.framing t.max t.unread l.came ≡ taken_in t.framing t.max t.unread t.link.came
  outs : put_in t.framing o.waiting o.sent l.written ≡ put_in t.framing t.waiting t.sent t.link.written

kept : (t : TcpState) (l : LinkView) (o : OutletView) → Holds t → Wrote (mark_of t.framing) (outlet_in t) o t.link l → SentWithin (mark_of t.framing) o.sent o.waiting → Kept t l o
kept t l o h w within =
    let parts = Fit-apart greatest w.gone o.waiting (subst (Fit greatest) w.left h.fit) in
    let place : l.place ≡ t.link.place = w.went.place in
    let scheme : l.scheme ≡ t.link.scheme = w.went.scheme in
    let came : l.came ≡ t.link.came = w.went.came in
    let own : told_number l.written ≡ told_number t.link.written = own_on t.framing t.waiting t.sent w.piece t.link.written l.written w.went.written h.writes in
    record {
      name = (λ i. OverLink (place i) t.max (scheme_number (scheme i)) t.spent (own i) (told_number (came i)));
      came = ap (taken_in t.framing t.max t.unread) came;
      outs = put_on t.framing t.waiting o.waiting w.gone t.sent o.sent w.piece t.link.written l.written h.within within parts.0 w.left (framed_text t.framing t.sent o.sent t.waiting o.waiting w.gone w.piece w.text) w.went.written h.writes;
    }

tcp_wrote : (t : TcpState) (l : LinkView) (o : OutletView) (k : WireMarks) → Wrote (mark_of t.framing) (outlet_in t) o t.link l → TcpWrote (tcp_view t) (tcp_view (with_write t l o k))
tcp_wrote t l o k w = record { piece = w.piece; went = w.went; counts = w.counts; max = refl; framing = refl }

-- ---- room

room_facts : (flush : WireFlush) (room : Room) (w : List (List ℕ)) (l l2 : LinkView) → FlushResult flush w l l2 → RoomAfter flush (length w) room → RoomFacts room (length w) l l2
room_facts flushes.Empty room w l l2 a e =
    let none : length w ≡ 0 = ap (λ (x : List (List ℕ)). length x) a in
    subst (λ r. RoomFacts r (length w) l l2) (sym e) (omega (arith, none), inl none)
room_facts flushes.NotYet room w l l2 a e = elim e [
  | inl x ↦ subst (λ r. RoomFacts r (length w) l l2) (sym x.1) (x.0, inr a.1)
  | inr x ↦ subst (λ r. RoomFacts r (length w) l l2) (sym x.1) (x.0, a.1)
]
room_facts flushes.Failed room w l l2 a e = subst (λ r. RoomFacts r (length w) l l2) (sym e) a.1
room_facts flushes.Refused room w l l2 a e = absurd a
room_facts flushes.NoMemory room w l l2 a e = absurd a

made_cause : (room : Room) (t : TcpState) (l : LinkView) (o : OutletView) (k : WireMarks) → length o.waiting ≤ 16 → RoomFacts room (length o.waiting) t.link l → RoomMade room (tcp_view t) (tcp_view (with_write t l o k))
made_cause rooms.Yes t l o k le f = f
made_cause rooms.Full t l o k le f = (omega (arith, le, f.0), f.1)
made_cause rooms.Failed t l o k le f = f
made_cause rooms.Refused t l o k le f = f
made_cause rooms.NoMemory t l o k le f = f

not_few : (n : ℕ) → 16 ≤ n → n < 16 → ⊥
not_few n a b = omega (arith, a, b)

pub record Roomed (room : Room) (t t2 : TcpState) : Type 0 where
  pub holds : Holds t2
  pub after : AfterRoom room (wire_of t) (wire_of t2)
  pub cause : RoomCause room (tcp_view t) (tcp_view t2)
  pub tcp : TcpWrote (tcp_view t) (tcp_view t2)
  pub is_framed : Framed (tcp_view t2)

-- 16 waited
made : (room : Room) (t : TcpState) (o : OutletView) (l : LinkView) → Holds t → IsMade (mark_of t.framing) room (outlet_in t) o t.link l → Roomed room t (with_write t l o (marks_roomed room t.marks))
made room t o l h m =
    let p = m.flushed in
    let w = p.wrote in
    let k : WireMarks = marks_roomed room t.marks in
    let f = room_facts m.ended room o.waiting t.link l p.returned m.returned in
    let marks = roomed_marks t.framing room t.max t.link l t.unread (length o.waiting) t.marks h.marks w.counts w.went.is_open f in
    let h2 : Holds (with_write t l o k) = write_holds t l o k h w p.within (ready_roomed room t.link l (length o.waiting) t.marks f (still_room t l o h w)) marks in
    let e = kept t l o h w p.within in
    record {
      holds = h2;
      after = after_room room (wire_name t.link t.max t.spent) (wire_name l t.max t.spent) (taken_in t.framing t.max t.unread t.link.came) (taken_in t.framing t.max t.unread l.came) (put_in t.framing t.waiting t.sent t.link.written) (put_in t.framing o.waiting o.sent l.written) (length t.waiting) (length o.waiting) false t.marks e.name e.came e.outs (fewer t l o w);
      cause = record { few = (λ lt. absurd (not_few (length t.waiting) m.many lt)); many = (λ _. made_cause room t l o k (omega (arith, fewer t l o w, h.most)) f) };
      tcp = tcp_wrote t l o k w;
      is_framed = framed (with_write t l o k) h2;
    }

-- the state with room found
abbrev with_room : TcpState → TcpState
with_room t = with_write t t.link (outlet_in t) (marks_roomed rooms.Yes t.marks)

left_at : (t : TcpState) → Holds t → length t.waiting < 16 → Roomed rooms.Yes t (with_room t)
left_at t h lt =
    let h2 : Holds (with_room t) = record {
      framed_by = h.framed_by;
      reads = h.reads;
      writes = h.writes;
      within = h.within;
      fit = h.fit;
      small = h.small;
      most = h.most;
      room = (λ _. lt);
      waited = h.waited;
      marks = ready_marks t.framing t.max t.link t.unread t.marks true h.marks;
    } in
    record {
      holds = h2;
      after = record { shows = refl; waits = omega arith };
      cause = record { few = (λ _. (refl, refl)); many = (λ le. absurd (not_few (length t.waiting) le lt)) };
      tcp = record { piece = []; went = went_none t.link; counts = wrote_counts_refl t.link; max = refl; framing = refl };
      is_framed = framed (with_room t) h2;
    }

-- fewer waited
left : (room : Room) (t : TcpState) (o : OutletView) (l : LinkView) → Holds t → IsLeft room (outlet_in t) o t.link l → Roomed room t (with_write t l o (marks_roomed room t.marks))
left room t o l h a =
    let at_room = subst (λ (r : Room). Roomed r t (with_write t t.link (outlet_in t) (marks_roomed r t.marks))) (sym a.returned) (left_at t h a.few) in
    let at_outlet = subst (λ (x : OutletView). Roomed room t (with_write t t.link x (marks_roomed room t.marks))) (sym a.outlet) at_room in
    subst (λ (x : LinkView). Roomed room t (with_write t x o (marks_roomed room t.marks))) (sym a.link_is) at_outlet

pub roomed : (room : Room) (t : TcpState) (o : OutletView) (l : LinkView) → Holds t → RoomFrom (mark_of t.framing) room (outlet_in t) o t.link l → Roomed room t (with_write t l o (marks_roomed room t.marks))
roomed room t o l h r = elim r [
  | inl a ↦ left room t o l h a
  | inr m ↦ made room t o l h m
]

-- ---- flush

waits_as : (result : WireFlush) (w : List (List ℕ)) (l l2 : LinkView) → FlushResult result w l l2 → WaitsAs result (length w)
waits_as flushes.Empty w l l2 a = ap (λ (x : List (List ℕ)). length x) a
waits_as flushes.NotYet w l l2 a = a.0
waits_as flushes.Failed w l l2 a = a.0
waits_as flushes.Refused w l l2 a = absurd a
waits_as flushes.NoMemory w l l2 a = absurd a

flush_cause : (result : WireFlush) (t : TcpState) (l : LinkView) (o : OutletView) (k : WireMarks) → FlushResult result o.waiting t.link l → FlushCause result (tcp_view t) (tcp_view (with_write t l o k))
flush_cause flushes.Empty t l o k a = tt
flush_cause flushes.NotYet t l o k a = a.1
flush_cause flushes.Failed t l o k a = a.1
flush_cause flushes.Refused t l o k a = a
flush_cause flushes.NoMemory t l o k a = a

pub record Flushed (result : WireFlush) (t t2 : TcpState) : Type 0 where
  pub holds : Holds t2
  pub after : AfterFlush result (wire_of t) (wire_of t2)
  pub cause : FlushCause result (tcp_view t) (tcp_view t2)
  pub tcp : TcpWrote (tcp_view t) (tcp_view t2)
  pub is_framed : Framed (tcp_view t2)

pub flushed : (result : WireFlush) (t : TcpState) (o : OutletView) (l : LinkView) → Holds t → FlushedFrom (mark_of t.framing) result (outlet_in t) o t.link l → Flushed result t (with_write t l o (marks_flushed result t.marks))
flushed result t o l h p =
    let w = p.wrote in
    let k : WireMarks = marks_flushed result t.marks in
    let marks = flushed_marks t.framing result t.max t.link l t.unread o.waiting t.marks h.marks w.counts w.went.is_open p.returned in
    let h2 : Holds (with_write t l o k) = write_holds t l o k h w p.within (λ e. still_room t l o h w (sym (ready_flushed result t.marks) ∙ e)) marks in
    let e = kept t l o h w p.within in
    record {
      holds = h2;
      after = after_flush result (wire_name t.link t.max t.spent) (wire_name l t.max t.spent) (taken_in t.framing t.max t.unread t.link.came) (taken_in t.framing t.max t.unread l.came) (put_in t.framing t.waiting t.sent t.link.written) (put_in t.framing o.waiting o.sent l.written) (length t.waiting) (length o.waiting) false t.marks e.name e.came e.outs (fewer t l o w) (waits_as result o.waiting t.link l p.returned);
      cause = flush_cause result t l o k p.returned;
      tcp = tcp_wrote t l o k w;
      is_framed = framed (with_write t l o k) h2;
    }

-- ---- put and shut

abbrev pub with_put : TcpState → OutletView → TcpState
with_put t o = with_write t t.link o (marks_put t.marks)

none_ready : false ≡ true → ⊥
none_ready e = cc

pub put_holds : (t : TcpState) (o : OutletView) (m : List ℕ) → Holds t → t.marks.is_ready ≡ true → o ≡ record { waiting = t.waiting ++ m ∷ []; sent = t.sent } → length m < 2 ^ 63 → SentWithin (mark_of t.framing) o.sent o.waiting → Holds (with_put t o)
put_holds t o m h ready is lt within =
    let H : OutletView → Type 0 = λ x. Told t.link.written (WritesAs t.framing x.waiting x.sent) in
    let fits : length m ≤ greatest = omega arith in
    let all : Fit greatest (t.waiting ++ m ∷ []) = Fit-append greatest t.waiting (m ∷ []) h.fit (fits, tt) in
    let count : length o.waiting ≡ length t.waiting + 1 = omega (arith, ap (λ (x : OutletView). length x.waiting) is, length-append t.waiting (m ∷ [])) in
    record {
      framed_by = h.framed_by;
      reads = h.reads;
      writes = subst H (sym is) (told_more t.framing t.waiting m t.sent t.link.written h.within h.writes);
      within = within;
      fit = subst (λ (x : OutletView). Fit greatest x.waiting) (sym is) all;
      small = h.small;
      most = omega (arith, count, h.room ready);
      room = (λ e. absurd (none_ready e));
      waited = h.waited;
      marks = ready_marks t.framing t.max t.link t.unread t.marks false h.marks;
    }

pub put_shows : (t : TcpState) (o : OutletView) (m : MessageView) → o ≡ record { waiting = t.waiting ++ wire_text m ∷ []; sent = t.sent } → AfterPut m (wire_of t) (wire_of (with_put t o))
put_shows t o m is =
    let count : length o.waiting ≡ length t.waiting + 1 = omega (arith, ap (λ (x : OutletView). length x.waiting) is, length-append t.waiting (wire_text m ∷ [])) in
    let outs : put_in t.framing o.waiting o.sent t.link.written ≡ with_text (put_in t.framing t.waiting t.sent t.link.written) (wire_text m) = ap (λ (x : OutletView). put_in t.framing x.waiting x.sent t.link.written) is ∙ put_more t.framing t.waiting (wire_text m) t.sent t.link.written in
    after_put m (wire_name t.link t.max t.spent) (taken_in t.framing t.max t.unread t.link.came) (put_in t.framing t.waiting t.sent t.link.written) (put_in t.framing o.waiting o.sent t.link.written) (length t.waiting) (length o.waiting) false t.marks outs (omega (arith, count)) (omega (arith, count))

pub record PutTo (m : MessageView) (t t2 : TcpState) : Type 0 where
  pub holds : Holds t2
  pub after : AfterPut m (wire_of t) (wire_of t2)
  pub is_framed : Framed (tcp_view t2)

pub record ShutTo (t t2 : TcpState) : Type 0 where
  pub holds : Holds t2
  pub after : AfterShut (wire_of t) (wire_of t2)
  pub is_framed : Framed (tcp_view t2)

abbrev pub with_shut : TcpState → LinkView → TcpState
with_shut t l = with_write t l (outlet_in t) (marks_shut t.marks)

abbrev shut_link : LinkView → LinkView
shut_link l = record l { is_open = false }

shut_holds_at : (t : TcpState) → Holds t → Holds (with_shut t (shut_link t.link))
shut_holds_at t h = record {
  framed_by = h.framed_by;
  reads = h.reads;
  writes = h.writes;
  within = h.within;
  fit = h.fit;
  small = h.small;
  most = h.most;
  room = (λ e. absurd (none_ready e));
  waited = h.waited;
  marks = shut_marks t.framing t.max t.link t.unread t.marks h.marks;
}

pub shut_holds : (t : TcpState) (l : LinkView) → Holds t → LinkShut t.link l → Holds (with_shut t l)
shut_holds t l h s = subst (λ x. Holds (with_shut t x)) (sym s) (shut_holds_at t h)

pub shut_shows : (t : TcpState) (l : LinkView) → LinkShut t.link l → AfterShut (wire_of t) (wire_of (with_shut t l))
shut_shows t l s = subst (λ x. AfterShut (wire_of t) (wire_of (with_shut t x))) (sym s) refl
