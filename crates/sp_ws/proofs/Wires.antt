-- What each call of the wire gives.
use Rattle.std.proofs.Common.{◌≡◌, ◌≤◌, ◌<◌, ◌+◌, ◌-◌, ◌++◌, ℕ, Bool, true, false, List, [], ◌∷◌, length, take, Option, Some, None, refl, sym, ap, subst, ◌∙◌, inl, inr, append-nil, append_assoc, arith}
use Rattle.std.proofs.lemmas.List.{length-append, take_at}
use Rattle.sp_base.specs.Views.{LinkView}
use Rattle.sp_base.specs.Outside.{grown}
use Rattle.sp_base.specs.Steps.{Came, Went, Moved, AfterShut as LinkShut}
use Rattle.sp_base.specs.Wires.{scheme_number}
use Rattle.sp_msg.specs.Links.{ReadCounts, WriteCounts}
use Rattle.sp_msg.specs.Views.{OverLink, MessageView, wire_text}
use Rattle.sp_msg.specs.Marks.{fresh_marks, marks_pulled, marks_roomed, marks_flushed, marks_put, marks_shut}
use Rattle.sp_msg.specs.Wires.{AfterPull, AfterRoom, AfterFlush, AfterPut, AfterShut, with_text, came_after, IsBare}
use Rattle.sp_msg.specs.declared.marks.WireMarks.{WireMarks}
use Rattle.sp_msg.specs.declared.wire.WireIn.{WireIn}
use Rattle.sp_msg.specs.declared.wire.WireIn.TheVariants as ins
use Rattle.sp_msg.specs.declared.wire.Room.{Room}
use Rattle.sp_msg.specs.declared.wire.Room.TheVariants as rooms
use Rattle.sp_msg.specs.declared.wire.WireFlush.{WireFlush}
use Rattle.sp_msg.specs.declared.wire.WireFlush.TheVariants as flushes
use Rattle.sp_msg.proofs.Shown.{WaitsAs, after_pull, after_room, after_flush, after_put}
use Rattle.sp_ws.specs.Views.{FramesView, FrameOutletView, count_of, fresh_frames, HasLimits}
use Rattle.sp_ws.specs.Sides.{role_of}
use Rattle.websocket.specs.declared.protocol.config.WebSocketConfig.{WebSocketConfig}
use Rattle.sp_ws.specs.declared.side.Side.{Side}
use Rattle.sp_ws.specs.Outlets.{AreWithin, passed, FlushResult, FlushedFrom, IsLeft, IsMade, RoomFrom, AtOnce, Answered}
use Rattle.sp_ws.specs.Pulls.{NoneCame, OneLost, PullResult, PullReads, WasFed, PulledFrom}
use Rattle.sp_msg.specs.Wires.{RoomAfter}
use Rattle.sp_ws.specs.Wires.{came_in, wire_name, WsState, ws_state, wire_of, ws_view, MarksHold, Holds, Tied, PullCause, PullCounts, WsPulled, WsWrote, RoomMade, RoomCause, FlushCause, IsNewWire}
use Rattle.sp_ws.proofs.Outlets.{within_more, wrote_within, fewer, passed_zero, went_none, quiet_refl, counts_refl}
use Rattle.sp_ws.proofs.Marks.{RoomFacts, pulled_marks, ready_pulled, flushed_marks, ready_flushed, roomed_marks, ready_roomed, ready_marks, shut_marks}

pub tied : (t : WsState) → Holds t → Tied (ws_view t)
tied t h = record {
  spent = t.spent;
  name = refl;
  waited = h.waited;
  outs = refl;
  waits = refl;
  within = h.within;
  most = h.most;
  came = (λ e. ap (λ (b : Bool). Some (came_in b t.frames.came)) (h.marks.going e).2);
  faults = h.marks.faults;
  idles = h.marks.idles;
  stalls = h.marks.stalls;
  refusals = h.marks.refusals;
  link_open = h.marks.link_open;
  ended = h.marks.at_end;
  malformed = h.marks.malformed;
}

name_at : (t : WsState) (l : LinkView) → l.place ≡ t.link.place → l.scheme ≡ t.link.scheme → wire_name l t.max t.spent ≡ wire_name t.link t.max t.spent
name_at t l place scheme = λ i. OverLink (place i) t.max (scheme_number (scheme i)) t.spent None None

-- ---- pull

abbrev pub pulled_state : WireIn → Bool → WsState → LinkView → FramesView → FrameOutletView → WsState
pulled_state result lost t l f o = ws_state l f o lost t.max t.spent (marks_pulled result t.marks)

bare_of : (result : WireIn) (max : ℕ) (lost : Bool) (came : List (List ℕ)) (f : FramesView) (l l2 : LinkView) → PullResult max result lost came f l l2 → IsBare result
bare_of (ins.Message m) max lost came f l l2 a = a.0
bare_of ins.NotYet max lost came f l l2 a = tt
bare_of ins.Ended max lost came f l l2 a = tt
bare_of ins.Malformed max lost came f l l2 a = tt
bare_of ins.Failed max lost came f l l2 a = tt
bare_of ins.Refused max lost came f l l2 a = tt
bare_of ins.NoMemory max lost came f l l2 a = tt

none_is : (lost : Bool) (came : List (List ℕ)) (f : FramesView) → NoneCame came lost f → Some (came_in lost f.came) ≡ Some came
none_is lost came f n = ap (λ (b : Bool). Some (came_in b f.came)) n.1 ∙ ap (λ (x : List (List ℕ)). Some x) n.0

lost_is : (lost : Bool) (came : List (List ℕ)) (f : FramesView) (body : List ℕ) → OneLost came lost f body → Some (came_in lost f.came) ≡ Some came
lost_is lost came f body n =
    let k : length (came ++ body ∷ []) - 1 ≡ length came = omega (arith, length-append {A = List ℕ} came (body ∷ [])) in
    ap (λ (b : Bool). Some (came_in b f.came)) n.1
    ∙ ap (λ (x : List (List ℕ)). Some (take (length x - 1) x)) n.0
    ∙ ap (λ (j : ℕ). Some (take j (came ++ body ∷ []))) k
    ∙ ap (λ (x : List (List ℕ)). Some x) (take_at came (body ∷ []) (length came) refl)

came_is : (result : WireIn) (max : ℕ) (lost : Bool) (came : List (List ℕ)) (f : FramesView) (l l2 : LinkView) → PullResult max result lost came f l l2 → Some (came_in lost f.came) ≡ came_after result (Some came)
came_is (ins.Message m) max lost came f l l2 a = ap (λ (b : Bool). Some (came_in b f.came)) a.3 ∙ ap (λ (x : List (List ℕ)). Some x) a.2
came_is ins.NotYet max lost came f l l2 a = none_is lost came f a.0
came_is ins.Ended max lost came f l l2 a = none_is lost came f a.0
came_is ins.Malformed max lost came f l l2 a = elim a [ inl x ↦ none_is lost came f x.0 | inr y ↦ lost_is lost came f y.0 y.1 ]
came_is ins.Failed max lost came f l l2 a = none_is lost came f a.0
came_is ins.Refused max lost came f l l2 a = absurd a
came_is ins.NoMemory max lost came f l l2 a = elim a [ inl x ↦ none_is lost came f x | inr y ↦ lost_is lost came f y.0 y.1 ]

pull_cause : (result : WireIn) (lost : Bool) (t : WsState) (l : LinkView) (f : FramesView) → PullResult t.max result lost t.frames.came f t.link l → PullCause result (ws_view t) (ws_view (pulled_state result lost t l f t.outlet))
pull_cause (ins.Message m) lost t l f a = (a.1, a.2)
pull_cause ins.NotYet lost t l f a = (a.1, a.2)
pull_cause ins.Ended lost t l f a = a.1
pull_cause ins.Malformed lost t l f a = elim a [ inl x ↦ inl x.1 | inr y ↦ inr (t.frames.came, y.0, y.1.0, y.2) ]
pull_cause ins.Failed lost t l f a = (a.1, a.2)
pull_cause ins.Refused lost t l f a = a
pull_cause ins.NoMemory lost t l f a = tt

-- ---- the write after the reads of a pull

result_on : (result : WireIn) (max : ℕ) (lost : Bool) (came : List (List ℕ)) (f : FramesView) (waiting : List ℕ) (l m n : LinkView) → PullResult max result lost came f l m → WriteCounts m n → PullResult max result lost came (record f { waiting = waiting }) l n
result_on (ins.Message msg) max lost came f waiting l m n a c = a
result_on ins.NotYet max lost came f waiting l m n a c = (a.0, a.1, omega (arith, a.2, c.idles))
result_on ins.Ended max lost came f waiting l m n a c = (a.0, elim a.1 [ inl x ↦ inl x | inr y ↦ inr (c.ended ∙ y.0, y.1) ])
result_on ins.Malformed max lost came f waiting l m n a c = a
result_on ins.Failed max lost came f waiting l m n a c = (a.0, a.1, omega (arith, a.2, c.faults))
result_on ins.Refused max lost came f waiting l m n a c = a
result_on ins.NoMemory max lost came f waiting l m n a c = a

reads_on : (result : WireIn) (f g : FramesView) (waiting : List ℕ) → PullReads result f g → PullReads result f (record g { waiting = waiting })
reads_on (ins.Message m) f g waiting a = record { before = a.before; are = a.are; r = a.r; reads = a.reads; returned = a.returned; named = a.named; last = a.last; came = a.came }
reads_on ins.NotYet f g waiting a = record { before = a.before; are = a.are; r = a.r; reads = a.reads; returned = a.returned; named = a.named; last = a.last; came = a.came }
reads_on ins.Ended f g waiting a = record { before = a.before; are = a.are; r = a.r; reads = a.reads; returned = a.returned; named = a.named; last = a.last; came = a.came }
reads_on ins.Malformed f g waiting a = record { before = a.before; are = a.are; r = a.r; reads = a.reads; returned = a.returned; named = a.named; last = a.last; came = a.came }
reads_on ins.Failed f g waiting a = record { before = a.before; are = a.are; r = a.r; reads = a.reads; returned = a.returned; named = a.named; last = a.last; came = a.came }
reads_on ins.Refused f g waiting a = a
reads_on ins.NoMemory f g waiting a = a

fed_on : (result : WireIn) (piece : List ℕ) (f g : FramesView) (waiting : List ℕ) → WasFed result piece f g → WasFed result piece f (record g { waiting = waiting })
fed_on (ins.Message m) piece f g waiting a = a
fed_on ins.NotYet piece f g waiting a = a
fed_on ins.Ended piece f g waiting a = a
fed_on ins.Malformed piece f g waiting a = a
fed_on ins.Failed piece f g waiting a = a
fed_on ins.Refused piece f g waiting a = a
fed_on ins.NoMemory piece f g waiting a = a

moved_on : (piece took : List ℕ) (l m n : LinkView) → Came piece l m → Went took m n → Moved (grown l.came piece) (grown l.written took) l n
moved_on piece took l m n a b = record {
  place = b.place ∙ a.place;
  scheme = b.scheme ∙ a.scheme;
  came = b.came ∙ a.came;
  written = b.written ∙ ap (λ (o : Option (List ℕ)). grown o took) a.written;
  is_open = b.is_open ∙ a.is_open;
}

counts_on : (l m n : LinkView) → ReadCounts l m → WriteCounts m n → PullCounts l n
counts_on l m n a b = record { faults = omega (arith, a.faults, b.faults); idles = omega (arith, a.idles, b.idles); stalls = omega (arith, a.stalls, b.stalls) }

-- replies are new where more waits than before
at_once_on : (before after replies ends took : List ℕ) (l m n : LinkView) → after ≡ before ++ replies → ReadCounts l m → AtOnce (length before < length after) ends took m n → AtOnce (0 < length replies) ends took l n
at_once_on before after replies ends took l m n is c a =
    let long : length after ≡ length before + length replies = omega (arith, ap length is, length-append before replies) in
    record {
      tried = (λ some none. elim (a.tried (omega (arith, long, some)) none) [
        | inl x ↦ inl x
        | inr y ↦ elim y [ inl s ↦ inr (inl (omega (arith, s, c.stalls))) | inr f ↦ inr (inr (omega (arith, f, c.faults))) ]
      ]);
      none_new = (λ no. let b = a.none_new (λ lt. no (omega (arith, long, lt))) in (b.0, b.1 ∙ c.stalls));
      none_first = (λ some. let b = a.none_first some in (b.0, b.1 ∙ c.stalls));
    }

-- the places of frames stay within what waits
answered_within : (new : Type 0) (ends took before after : List ℕ) (m n : LinkView) → AtOnce new ends took m n → before ≡ took ++ after → AreWithin (length before) ends → AreWithin (length after) ends
answered_within new [] took before after m n a is w = tt
answered_within new (e ∷ es) took before after m n a is w =
    let none : took ≡ [] = (a.none_first (omega arith)).0 in
    let same : before ≡ after = is ∙ ap (λ (x : List ℕ). x ++ after) none in
    subst (λ (x : List ℕ). AreWithin (length x) (e ∷ es)) same w

-- ---- a whole pull

pub record Pulled (result : WireIn) (t t2 : WsState) : Type 0 where
  pub holds : Holds t2
  pub after : AfterPull result (wire_of t) (wire_of t2)
  pub ws : WsPulled result (ws_view t) (ws_view t2)
  pub is_tied : Tied (ws_view t2)

-- the places of frames lie within what waits after the reads
pub inside_still : (result : WireIn) (lost : Bool) (t : WsState) (m : LinkView) (mid : FramesView) → Holds t → PulledFrom t.max result lost t.frames mid t.link m → AreWithin (length mid.waiting) t.outlet.ends
inside_still result lost t m mid h p =
    let longer : length t.frames.waiting ≤ length mid.waiting = omega (arith, ap length p.going.waiting, length-append t.frames.waiting p.going.replies) in
    within_more (length t.frames.waiting) (length mid.waiting) t.outlet.ends longer h.within

pulled_at : (result : WireIn) (lost : Bool) (t : WsState) (m l : LinkView) (mid f : FramesView) → Holds t → t.marks.is_open ≡ true → PulledFrom t.max result lost t.frames mid t.link m → Answered (length t.frames.waiting) t.outlet t.outlet mid f m l → Pulled result t (pulled_state result lost t l f t.outlet)
pulled_at result lost t m l mid f h o p a =
    let g = p.going in
    let back = λ (P : FramesView → Type 0) (x : P (record mid { waiting = f.waiting })). subst P (sym a.frames) x in
    let returned : PullResult t.max result lost t.frames.came f t.link l = back (λ v. PullResult t.max result lost t.frames.came v t.link l) (result_on result t.max lost t.frames.came mid f.waiting t.link m l p.returned a.counts) in
    let reads : PullReads result t.frames f = back (λ v. PullReads result t.frames v) (reads_on result t.frames mid f.waiting p.reads) in
    let fed : WasFed result g.piece t.frames f = back (λ v. WasFed result g.piece t.frames v) (fed_on result g.piece t.frames mid f.waiting p.fed) in
    let sent : f.sent ≡ t.frames.sent = ap (λ (v : FramesView). v.sent) a.frames ∙ g.sent in
    let moved = moved_on g.piece a.took t.link m l g.came a.went in
    let counts : PullCounts t.link l = counts_on t.link m l g.counts a.counts in
    let inside = inside_still result lost t m mid h p in
    let few : t.frames.refusals ≤ f.refusals = omega (arith, ap (λ (v : FramesView). v.refusals) a.frames, g.refusals) in
    let h2 : Holds (pulled_state result lost t l f t.outlet) = record {
      within = answered_within (length t.frames.waiting < length mid.waiting) t.outlet.ends a.took mid.waiting f.waiting m l a.at_once a.waiting inside;
      most = h.most;
      room = (λ e. h.room (sym (ready_pulled result t.marks) ∙ e));
      waited = omega (arith, h.waited, counts.idles, counts.stalls);
      marks = pulled_marks result t.max t.link l t.frames f t.lost lost t.frames.came t.marks o h.marks counts moved.is_open few returned;
    } in
    let before : Some (came_in t.lost t.frames.came) ≡ Some t.frames.came = ap (λ (b : Bool). Some (came_in b t.frames.came)) (h.marks.going o).2 in
    let came : Some (came_in lost f.came) ≡ came_after result (Some (came_in t.lost t.frames.came)) = came_is result t.max lost t.frames.came f t.link l returned ∙ ap (came_after result) (sym before) in
    let outs : Some (f.sent ++ t.outlet.held) ≡ Some (t.frames.sent ++ t.outlet.held) = ap (λ (x : List (List ℕ)). Some (x ++ t.outlet.held)) sent in
    record {
      holds = h2;
      after = after_pull result (wire_name t.link t.max t.spent) (wire_name l t.max t.spent) (Some (came_in t.lost t.frames.came)) (Some (came_in lost f.came)) (Some (t.frames.sent ++ t.outlet.held)) (Some (f.sent ++ t.outlet.held)) (count_of t.outlet) (count_of t.outlet) false t.marks (bare_of result t.max lost t.frames.came f t.link l returned) (name_at t l moved.place moved.scheme) came outs refl;
      ws = record {
        cause = pull_cause result lost t l f returned;
        piece = g.piece;
        took = a.took;
        moved = moved;
        fed = fed;
        counts = counts;
        replies = g.replies;
        waiting = sym g.waiting ∙ a.waiting;
        at_once = at_once_on t.frames.waiting mid.waiting g.replies t.outlet.ends a.took t.link m l g.waiting g.counts a.at_once;
        sent = sent;
        outlet = refl;
        max = refl;
        reads = reads;
        role = ap (λ (v : FramesView). v.role) a.frames ∙ g.role;
      };
      is_tied = tied (pulled_state result lost t l f t.outlet) h2;
    }

pub pulled : (result : WireIn) (lost : Bool) (t : WsState) (m l : LinkView) (mid f : FramesView) (o : FrameOutletView) → Holds t → t.marks.is_open ≡ true → PulledFrom t.max result lost t.frames mid t.link m → Answered (length t.frames.waiting) t.outlet o mid f m l → Pulled result t (pulled_state result lost t l f o)
pulled result lost t m l mid f o h is_open p a =
    let same : Answered (length t.frames.waiting) t.outlet t.outlet mid f m l = subst (λ (x : FrameOutletView). Answered (length t.frames.waiting) t.outlet x mid f m l) a.outlet a in
    subst (λ (x : FrameOutletView). Pulled result t (pulled_state result lost t l f x)) (sym a.outlet) (pulled_at result lost t m l mid f h is_open p same)

-- ---- writing

abbrev pub with_write : WsState → LinkView → FramesView → FrameOutletView → WireMarks → WsState
with_write t l f o k = ws_state l f o t.lost t.max t.spent k

-- what a flush keeps
record Kept (t : WsState) (l : LinkView) (f : FramesView) (o : FrameOutletView) : Type 0 where
  few : count_of o ≤ count_of t.outlet
  outs : Some (f.sent ++ o.held) ≡ Some (t.frames.sent ++ t.outlet.held)
  came : f.came ≡ t.frames.came
  within : AreWithin (length f.waiting) o.ends

kept : (result : WireFlush) (t : WsState) (l : LinkView) (f : FramesView) (o : FrameOutletView) → Holds t → FlushedFrom result t.outlet o t.frames f t.link l → Kept t l f o
kept result t l f o h p =
    let g = p.gave in
    let w = p.wrote in
    let sent : f.sent ≡ t.frames.sent ++ g.gone = ap (λ (v : FramesView). v.sent) w.frames ∙ g.sent in
    record {
      few = fewer t.outlet p.mid o t.frames p.framed f t.link l g w;
      outs = ap (λ (x : List (List ℕ)). Some (x ++ o.held)) sent
          ∙ ap (λ (x : List (List ℕ)). Some x) (append_assoc t.frames.sent g.gone o.held)
          ∙ ap (λ (x : List (List ℕ)). Some (t.frames.sent ++ (g.gone ++ x))) w.held
          ∙ ap (λ (x : List (List ℕ)). Some (t.frames.sent ++ x)) (sym g.held);
      came = ap (λ (v : FramesView). v.came) w.frames ∙ ap (λ (v : FramesView). v.came) g.kept;
      within = wrote_within p.mid o p.framed f t.link l w (g.within h.within);
    }

ws_wrote : (result : WireFlush) (t : WsState) (l : LinkView) (f : FramesView) (o : FrameOutletView) (k : WireMarks) → FlushedFrom result t.outlet o t.frames f t.link l → WsWrote (ws_view t) (ws_view (with_write t l f o k))
ws_wrote result t l f o k p =
    let g = p.gave in
    let w = p.wrote in
    let same : p.framed.sent ≡ f.sent = sym (ap (λ (v : FramesView). v.sent) w.frames) in
    record {
      gone = g.gone;
      places = g.places;
      bytes = g.bytes;
      piece = w.piece;
      held = g.held ∙ ap (λ (x : List (List ℕ)). g.gone ++ x) (sym w.held);
      sent = ap (λ (v : FramesView). v.sent) w.frames ∙ g.sent;
      frames = g.frames;
      ends = w.ends ∙ ap (passed (length w.piece)) g.ends;
      waiting = sym g.waiting ∙ w.waiting;
      went = w.went;
      counts = w.counts;
      kept = w.frames ∙ ap (λ (v : FramesView). record v { waiting = f.waiting }) g.kept ∙ (λ i. record t.frames { waiting = f.waiting; sent = same i });
      max = refl;
    }

write_holds : (t : WsState) (l : LinkView) (f : FramesView) (o : FrameOutletView) (k : WireMarks) → Holds t → Kept t l f o → (k.is_ready ≡ true → count_of o < 16) → WriteCounts t.link l → MarksHold t.max l f t.lost k → Holds (with_write t l f o k)
write_holds t l f o k h e room counts marks = record { within = e.within; most = omega (arith, h.most, e.few); room = room; waited = omega (arith, h.waited, counts.idles, counts.stalls); marks = marks }

still_room : (t : WsState) (l : LinkView) (f : FramesView) (o : FrameOutletView) → Holds t → Kept t l f o → t.marks.is_ready ≡ true → count_of o < 16
still_room t l f o h e r = omega (arith, h.room r, e.few)

came_kept : (t : WsState) (f : FramesView) → f.came ≡ t.frames.came → Some (came_in t.lost f.came) ≡ Some (came_in t.lost t.frames.came)
came_kept t f e = ap (λ (x : List (List ℕ)). Some (came_in t.lost x)) e

-- ---- room

room_facts : (flush : WireFlush) (room : Room) (waits : ℕ) (f f2 : FramesView) (l l2 : LinkView) → FlushResult flush waits f f2 l l2 → RoomAfter flush waits room → RoomFacts room waits f f2 l l2
room_facts flushes.Empty room waits f f2 l l2 a e = subst (λ r. RoomFacts r waits f f2 l l2) (sym e) (omega (arith, a.0), inl (a.0, a.2), a.1)
room_facts flushes.NotYet room waits f f2 l l2 a e = elim e [
  | inl x ↦ subst (λ r. RoomFacts r waits f f2 l l2) (sym x.1) (x.0, inr a.1, a.2)
  | inr x ↦ subst (λ r. RoomFacts r waits f f2 l l2) (sym x.1) (x.0, a.1, a.2)
]
room_facts flushes.Failed room waits f f2 l l2 a e = subst (λ r. RoomFacts r waits f f2 l l2) (sym e) (a.1, a.2)
room_facts flushes.Refused room waits f f2 l l2 a e = absurd a
room_facts flushes.NoMemory room waits f f2 l l2 a e = subst (λ r. RoomFacts r waits f f2 l l2) (sym e) a.1

made_cause : (room : Room) (t : WsState) (l : LinkView) (f : FramesView) (o : FrameOutletView) (k : WireMarks) → count_of o ≤ 16 → RoomFacts room (count_of o) t.frames f t.link l → RoomMade room (ws_view t) (ws_view (with_write t l f o k))
made_cause rooms.Yes t l f o k le a = (a.0, a.1)
made_cause rooms.Full t l f o k le a = (omega (arith, le, a.0), a.1)
made_cause rooms.Failed t l f o k le a = a.0
made_cause rooms.Refused t l f o k le a = a
made_cause rooms.NoMemory t l f o k le a = tt

not_few : (n : ℕ) → 16 ≤ n → n < 16 → ⊥
not_few n a b = omega (arith, a, b)

pub record Roomed (room : Room) (t t2 : WsState) : Type 0 where
  pub holds : Holds t2
  pub after : AfterRoom room (wire_of t) (wire_of t2)
  pub cause : RoomCause room (ws_view t) (ws_view t2)
  pub ws : WsWrote (ws_view t) (ws_view t2)
  pub is_tied : Tied (ws_view t2)

-- 16 waited
made : (room : Room) (t : WsState) (l : LinkView) (f : FramesView) (o : FrameOutletView) → Holds t → t.marks.is_open ≡ true → IsMade room t.outlet o t.frames f t.link l → Roomed room t (with_write t l f o (marks_roomed room t.marks))
made room t l f o h open_is m =
    let p = m.flushed in
    let k : WireMarks = marks_roomed room t.marks in
    let e = kept m.ended t l f o h p in
    let a = room_facts m.ended room (count_of o) t.frames f t.link l p.returned m.returned in
    let marks = roomed_marks room t.max t.link l t.frames f t.lost (count_of o) t.marks open_is h.marks p.wrote.counts p.wrote.went.is_open a in
    let h2 : Holds (with_write t l f o k) = write_holds t l f o k h e (ready_roomed room t.frames f t.link l (count_of o) t.marks a (still_room t l f o h e)) p.wrote.counts marks in
    record {
      holds = h2;
      after = after_room room (wire_name t.link t.max t.spent) (wire_name l t.max t.spent) (Some (came_in t.lost t.frames.came)) (Some (came_in t.lost f.came)) (Some (t.frames.sent ++ t.outlet.held)) (Some (f.sent ++ o.held)) (count_of t.outlet) (count_of o) false t.marks (name_at t l p.wrote.went.place p.wrote.went.scheme) (came_kept t f e.came) e.outs e.few;
      cause = record { few = (λ lt. absurd (not_few (count_of t.outlet) m.many lt)); many = (λ _. made_cause room t l f o k (omega (arith, h.most, e.few)) a) };
      ws = ws_wrote m.ended t l f o k p;
      is_tied = tied (with_write t l f o k) h2;
    }

-- the state with room found
abbrev with_room : WsState → WsState
with_room t = with_write t t.link t.frames t.outlet (marks_roomed rooms.Yes t.marks)

left_wrote : (t : WsState) → Holds t → WsWrote (ws_view t) (ws_view (with_room t))
left_wrote t h = record {
  gone = [];
  places = [];
  bytes = [];
  piece = [];
  held = refl;
  sent = sym (append-nil t.frames.sent);
  frames = refl;
  ends = sym (ap (passed 0) (append-nil t.outlet.ends) ∙ passed_zero t.outlet.ends (length t.frames.waiting) h.within);
  waiting = append-nil t.frames.waiting;
  went = went_none t.link t.link (quiet_refl t.link);
  counts = counts_refl t.link;
  kept = refl;
  max = refl;
}

left_at : (t : WsState) → Holds t → count_of t.outlet < 16 → Roomed rooms.Yes t (with_room t)
left_at t h lt =
    let h2 : Holds (with_room t) = record { within = h.within; most = h.most; room = (λ _. lt); waited = h.waited; marks = ready_marks t.max t.link t.frames t.lost t.marks true h.marks } in
    record {
      holds = h2;
      after = record { shows = refl; waits = omega arith };
      cause = record { few = (λ _. (refl, refl)); many = (λ le. absurd (not_few (count_of t.outlet) le lt)) };
      ws = left_wrote t h;
      is_tied = tied (with_room t) h2;
    }

-- fewer waited
left : (room : Room) (t : WsState) (l : LinkView) (f : FramesView) (o : FrameOutletView) → Holds t → IsLeft room t.outlet o t.frames f t.link l → Roomed room t (with_write t l f o (marks_roomed room t.marks))
left room t l f o h a =
    let at_room = subst (λ (r : Room). Roomed r t (with_write t t.link t.frames t.outlet (marks_roomed r t.marks))) (sym a.returned) (left_at t h a.few) in
    let at_outlet = subst (λ (x : FrameOutletView). Roomed room t (with_write t t.link t.frames x (marks_roomed room t.marks))) (sym a.outlet) at_room in
    let at_frames = subst (λ (x : FramesView). Roomed room t (with_write t t.link x o (marks_roomed room t.marks))) (sym a.frames) at_outlet in
    subst (λ (x : LinkView). Roomed room t (with_write t x f o (marks_roomed room t.marks))) (sym a.link_is) at_frames

pub roomed : (room : Room) (t : WsState) (l : LinkView) (f : FramesView) (o : FrameOutletView) → Holds t → t.marks.is_open ≡ true → RoomFrom room t.outlet o t.frames f t.link l → Roomed room t (with_write t l f o (marks_roomed room t.marks))
roomed room t l f o h open_is r = elim r [
  | inl a ↦ left room t l f o h a
  | inr m ↦ made room t l f o h open_is m
]

-- ---- flush

waits_as : (result : WireFlush) (waits : ℕ) (f f2 : FramesView) (l l2 : LinkView) → FlushResult result waits f f2 l l2 → WaitsAs result waits
waits_as flushes.Empty waits f f2 l l2 a = a.0
waits_as flushes.NotYet waits f f2 l l2 a = a.0
waits_as flushes.Failed waits f f2 l l2 a = a.0
waits_as flushes.Refused waits f f2 l l2 a = absurd a
waits_as flushes.NoMemory waits f f2 l l2 a = a.0

flush_cause : (result : WireFlush) (t : WsState) (l : LinkView) (f : FramesView) (o : FrameOutletView) (k : WireMarks) → FlushResult result (count_of o) t.frames f t.link l → FlushCause result (ws_view t) (ws_view (with_write t l f o k))
flush_cause flushes.Empty t l f o k a = a.2
flush_cause flushes.NotYet t l f o k a = a.1
flush_cause flushes.Failed t l f o k a = a.1
flush_cause flushes.Refused t l f o k a = absurd a
flush_cause flushes.NoMemory t l f o k a = tt

pub record Flushed (result : WireFlush) (t t2 : WsState) : Type 0 where
  pub holds : Holds t2
  pub after : AfterFlush result (wire_of t) (wire_of t2)
  pub cause : FlushCause result (ws_view t) (ws_view t2)
  pub ws : WsWrote (ws_view t) (ws_view t2)
  pub is_tied : Tied (ws_view t2)

pub flushed : (result : WireFlush) (t : WsState) (l : LinkView) (f : FramesView) (o : FrameOutletView) → Holds t → t.marks.is_open ≡ true → FlushedFrom result t.outlet o t.frames f t.link l → Flushed result t (with_write t l f o (marks_flushed result t.marks))
flushed result t l f o h open_is p =
    let k : WireMarks = marks_flushed result t.marks in
    let e = kept result t l f o h p in
    let marks = flushed_marks result t.max t.link l t.frames f t.lost (count_of o) t.marks open_is h.marks p.wrote.counts p.wrote.went.is_open p.returned in
    let h2 : Holds (with_write t l f o k) = write_holds t l f o k h e (λ r. still_room t l f o h e (sym (ready_flushed result t.marks) ∙ r)) p.wrote.counts marks in
    record {
      holds = h2;
      after = after_flush result (wire_name t.link t.max t.spent) (wire_name l t.max t.spent) (Some (came_in t.lost t.frames.came)) (Some (came_in t.lost f.came)) (Some (t.frames.sent ++ t.outlet.held)) (Some (f.sent ++ o.held)) (count_of t.outlet) (count_of o) false t.marks (name_at t l p.wrote.went.place p.wrote.went.scheme) (came_kept t f e.came) e.outs e.few (waits_as result (count_of o) t.frames f t.link l p.returned);
      cause = flush_cause result t l f o k p.returned;
      ws = ws_wrote result t l f o k p;
      is_tied = tied (with_write t l f o k) h2;
    }

-- ---- put and shut

none_ready : false ≡ true → ⊥
none_ready e = cc

abbrev pub with_put : WsState → FrameOutletView → WsState
with_put t o = with_write t t.link t.frames o (marks_put t.marks)

pub record PutTo (m : MessageView) (t t2 : WsState) : Type 0 where
  pub holds : Holds t2
  pub after : AfterPut m (wire_of t) (wire_of t2)
  pub held : t2.outlet.held ≡ t.outlet.held ++ wire_text m ∷ []
  pub is_tied : Tied (ws_view t2)

pub put_to : (t : WsState) (o : FrameOutletView) (m : MessageView) → Holds t → t.marks.is_ready ≡ true → o ≡ record { held = t.outlet.held ++ wire_text m ∷ []; ends = t.outlet.ends } → PutTo m t (with_put t o)
put_to t o m h ready is =
    let count : count_of o ≡ count_of t.outlet + 1 = omega (arith, ap (λ (x : FrameOutletView). count_of x) is, length-append {A = List ℕ} t.outlet.held (wire_text m ∷ [])) in
    let held : o.held ≡ t.outlet.held ++ wire_text m ∷ [] = ap (λ (x : FrameOutletView). x.held) is in
    let outs : Some (t.frames.sent ++ o.held) ≡ with_text (Some (t.frames.sent ++ t.outlet.held)) (wire_text m) = ap (λ (x : List (List ℕ)). Some (t.frames.sent ++ x)) held ∙ ap (λ (x : List (List ℕ)). Some x) (sym (append_assoc t.frames.sent t.outlet.held (wire_text m ∷ []))) in
    let h2 : Holds (with_put t o) = record {
      within = subst (λ (x : FrameOutletView). AreWithin (length t.frames.waiting) x.ends) (sym is) h.within;
      most = omega (arith, count, h.room ready);
      room = (λ e. absurd (none_ready e));
      waited = h.waited;
      marks = ready_marks t.max t.link t.frames t.lost t.marks false h.marks;
    } in
    record {
      holds = h2;
      after = after_put m (wire_name t.link t.max t.spent) (Some (came_in t.lost t.frames.came)) (Some (t.frames.sent ++ t.outlet.held)) (Some (t.frames.sent ++ o.held)) (count_of t.outlet) (count_of o) false t.marks outs (omega (arith, count)) (omega (arith, count));
      held = held;
      is_tied = tied (with_put t o) h2;
    }

abbrev pub with_shut : WsState → LinkView → WsState
with_shut t l = with_write t l t.frames t.outlet (marks_shut t.marks)

abbrev shut_link : LinkView → LinkView
shut_link l = record l { is_open = false }

pub record ShutTo (t t2 : WsState) : Type 0 where
  pub holds : Holds t2
  pub after : AfterShut (wire_of t) (wire_of t2)
  pub is_tied : Tied (ws_view t2)

shut_at : (t : WsState) → Holds t → ShutTo t (with_shut t (shut_link t.link))
shut_at t h =
    let h2 : Holds (with_shut t (shut_link t.link)) = record { within = h.within; most = h.most; room = (λ e. absurd (none_ready e)); waited = h.waited; marks = shut_marks t.max t.link t.frames t.lost t.marks h.marks } in
    record { holds = h2; after = refl; is_tied = tied (with_shut t (shut_link t.link)) h2 }

pub shut_to : (t : WsState) (l : LinkView) → Holds t → LinkShut t.link l → ShutTo t (with_shut t l)
shut_to t l h s = subst (λ x. ShutTo t (with_shut t x)) (sym s) (shut_at t h)

-- ---- a new wire

none_over : (b : Bool) → b ≡ false → b ≡ true → ⊥
none_over b e f = cc

-- the frames of a new wire, where these bytes were fed to new frames
pub new_frames : (n f : FramesView) (side : Side) (rest : List ℕ) → n ≡ fresh_frames (role_of side) n.config → f ≡ record n { fed = n.fed ++ rest } → f ≡ record (fresh_frames (role_of side) f.config) { fed = rest }
new_frames n f side rest fresh fed =
    subst (λ (k : WebSocketConfig). f ≡ record (fresh_frames (role_of side) k) { fed = rest }) (sym (ap (λ (v : FramesView). v.config) fed)) (fed ∙ ap (λ (v : FramesView). record v { fed = v.fed ++ rest }) fresh)

pub new_holds : (l : LinkView) (f : FramesView) (o : FrameOutletView) (max : ℕ) (side : Side) (rest : List ℕ) → l.is_open ≡ true → f ≡ record (fresh_frames (role_of side) f.config) { fed = rest } → o ≡ record { held = []; ends = [] } → Holds (ws_state l f o false max (l.idles + l.stalls) fresh_marks)
new_holds l f o max side rest is_open fe oe =
    let count : count_of o ≡ 0 = ap (λ (x : FrameOutletView). count_of x) oe in
    record {
      within = subst (λ (x : FrameOutletView). AreWithin (length f.waiting) x.ends) (sym oe) tt;
      most = omega (arith, count);
      room = (λ e. absurd (none_ready e));
      waited = omega arith;
      marks = record { link_open = (λ e. is_open); going = (λ e. (refl, refl, refl)); at_end = (λ e. absurd (none_ready e)); malformed = (λ e. absurd (none_ready e)); faults = omega arith; idles = omega arith; stalls = omega arith; refusals = omega arith };
    }

pub new_wire : (l : LinkView) (f : FramesView) (o : FrameOutletView) (max : ℕ) (side : Side) (rest : List ℕ) → l.is_open ≡ true → f ≡ record (fresh_frames (role_of side) f.config) { fed = rest } → o ≡ record { held = []; ends = [] } → HasLimits max f.config → IsNewWire side max rest l (ws_view (ws_state l f o false max (l.idles + l.stalls) fresh_marks))
new_wire l f o max side rest is_open fe oe limits = record {
  link_is = refl;
  max_is = refl;
  frames = fe;
  limits = limits;
  wire = (λ i. wire_of (ws_state l (fe i) (oe i) false max (l.idles + l.stalls) fresh_marks));
  tied = tied (ws_state l f o false max (l.idles + l.stalls) fresh_marks) (new_holds l f o max side rest is_open fe oe);
}
