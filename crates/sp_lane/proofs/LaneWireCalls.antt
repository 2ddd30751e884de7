-- What each call of a wire over two lanes leaves, and what it shows.
use Rattle.std.proofs.Common.{◌≡◌, ◌≤◌, ◌-◌, ◌++◌, ◌&&◌, inl, inr, ℕ, Bool, true, false, not, true≢false, List, [], ◌∷◌, length, take, Option, Some, None, IfSome, is_none, refl, sym, ap, ◌∙◌, subst, append-nil, arith}
use Rattle.sp_msg.specs.Views.{MessageView, OverLanes, wire_text}
use Rattle.sp_msg.specs.Marks.{marks_pulled, marks_roomed, marks_flushed}
use Rattle.sp_msg.specs.Wires.{AfterPull, AfterRoom, AfterFlush, came_after, IsBare}
use Rattle.sp_msg.proofs.Shown.{after_pull, after_room, after_flush, WaitsAs}
use Rattle.sp_msg.specs.declared.marks.WireMarks.{WireMarks}
use Rattle.sp_msg.specs.declared.wire.WireIn.{WireIn}
use Rattle.sp_msg.specs.declared.wire.WireIn.TheVariants as ins
use Rattle.sp_msg.specs.declared.wire.Room.{Room}
use Rattle.sp_msg.specs.declared.wire.WireFlush.{WireFlush}
use Rattle.sp_lane.specs.declared.item.LaneItem.{LaneItem}
use Rattle.sp_lane.specs.declared.item.LaneItem.TheVariants as items
use Rattle.sp_lane.specs.Items.{texts}
use Rattle.sp_lane.specs.Lanes.{InView, OutView, has_end, DidTake}
use Rattle.sp_lane.specs.LaneWires.{came_of, hand_texts, hand_count, lane_wire, IsLaneWire, is_lost, PulledFrom, Pushed, TriedEnd, Drained, room_of, flush_of}
use Rattle.sp_lane.proofs.Counts.{end_snoc, without_last, texts_message, texts_end}

since_taken : (x : LaneItem) (old new : OutView) → DidTake x old new → new.since ≡ old.since ++ x ∷ []
since_taken x old new did = ap (λ (v : OutView). v.since) did.is

pulled_name : (r : WireIn) (old new : OutView) → PulledFrom r old new → new.name ≡ old.name
pulled_name (ins.Message b) old new p = ap (λ (v : OutView). v.name) p.1.is
pulled_name ins.NotYet old new p = ap (λ (v : OutView). v.name) p.0
pulled_name ins.Ended old new p = ap (λ (v : OutView). v.name) p.is
pulled_name ins.Malformed old new p = absurd p
pulled_name ins.Failed old new p = absurd p
pulled_name ins.Refused old new p = absurd p
pulled_name ins.NoMemory old new p = ap (λ (v : OutView). v.name) p.1.is

pulled_bare : (r : WireIn) (old new : OutView) → PulledFrom r old new → IsBare r
pulled_bare (ins.Message b) old new p = p.2
pulled_bare ins.NotYet old new p = tt
pulled_bare ins.Ended old new p = tt
pulled_bare ins.Malformed old new p = tt
pulled_bare ins.Failed old new p = tt
pulled_bare ins.Refused old new p = tt
pulled_bare ins.NoMemory old new p = tt

pulled_came : (r : WireIn) (old new : OutView) → PulledFrom r old new → Some (came_of (is_lost r) new.since) ≡ came_after r (Some (texts old.since))
pulled_came (ins.Message b) old new p = ap (λ l. Some (texts l)) (since_taken (items.Message p.0) old new p.1) ∙ ap (λ (l : List (List ℕ)). Some l) (texts_message old.since p.0 ∙ ap (λ t. texts old.since ++ t ∷ []) (sym p.3))
pulled_came ins.NotYet old new p = ap (λ (v : OutView). Some (texts v.since)) p.0
pulled_came ins.Ended old new p = ap (λ l. Some (texts l)) (since_taken items.End old new p) ∙ ap (λ (l : List (List ℕ)). Some l) (texts_end old.since)
pulled_came ins.Malformed old new p = absurd p
pulled_came ins.Failed old new p = absurd p
pulled_came ins.Refused old new p = absurd p
pulled_came ins.NoMemory old new p = ap (λ l. Some (texts (take (length l - 1) l))) (since_taken (items.Message p.0) old new p.1) ∙ ap (λ l. Some (texts l)) (without_last old.since (items.Message p.0))

pub pulled : (r : WireIn) (out : InView) (old new : OutView) (hand : Option MessageView) (lost lost' s : Bool) (k k' : WireMarks) → PulledFrom r old new → lost ≡ false → lost' ≡ is_lost r → k' ≡ marks_pulled r k → AfterPull r (lane_wire out old hand lost s k) (lane_wire out new hand lost' s k')
pulled r out old new hand lost lost' s k k' p a b e =
    subst (λ (z : Bool × Bool × WireMarks). AfterPull r (lane_wire out old hand z.0 s k) (lane_wire out new hand z.1 s z.2)) (λ i. (sym a i, sym b i, sym e i))
    (after_pull r (OverLanes out.name old.name) (OverLanes out.name new.name) (Some (texts old.since)) (Some (came_of (is_lost r) new.since))
    (Some (texts out.since ++ hand_texts hand)) (Some (texts out.since ++ hand_texts hand)) (hand_count hand) (hand_count hand) s k
    (pulled_bare r old new p) (ap (λ n. OverLanes out.name n) (pulled_name r old new p)) (pulled_came r old new p) refl refl)

pushed_name : (hand left : Option MessageView) (old new : InView) → Pushed hand left old new → new.name ≡ old.name
pushed_name None left old new p = ap (λ (v : InView). v.name) p.1
pushed_name (Some m) None old new p = ap (λ (v : InView). v.name) p.is
pushed_name (Some m) (Some back) old new p = ap (λ (v : InView). v.name) p.1

pushed_texts : (hand left : Option MessageView) (old new : InView) → Pushed hand left old new → texts new.since ++ hand_texts left ≡ texts old.since ++ hand_texts hand
pushed_texts None left old new p = λ i. texts (p.1 i).since ++ hand_texts (p.0 i)
pushed_texts (Some m) None old new p = append-nil (texts new.since) ∙ ap (λ (v : InView). texts v.since) p.is ∙ texts_message old.since m
pushed_texts (Some m) (Some back) old new p = λ i. texts (p.1 i).since ++ wire_text (p.0 i) ∷ []

pushed_count : (hand left : Option MessageView) (old new : InView) → Pushed hand left old new → hand_count left ≤ hand_count hand
pushed_count None left old new p = omega (arith, ap hand_count p.0)
pushed_count (Some m) None old new p = omega arith
pushed_count (Some m) (Some back) old new p = omega arith

pushed_begun : (hand left : Option MessageView) (old new : InView) → has_end old.put ≡ false → Pushed hand left old new → has_end new.put ≡ false
pushed_begun None left old new e p = ap (λ (v : InView). has_end v.put) p.1 ∙ e
pushed_begun (Some m) None old new e p = ap (λ (v : InView). has_end v.put) p.is ∙ end_snoc old.put (items.Message m) e
pushed_begun (Some m) (Some back) old new e p = ap (λ (v : InView). has_end v.put) p.1 ∙ e

-- what is kept in hand may be put later
pushed_hand : (hand left : Option MessageView) (old new : InView) → IfSome hand (λ _. has_end old.put ≡ false) → Pushed hand left old new → IfSome left (λ _. has_end new.put ≡ false)
pushed_hand None left old new e p = subst (λ (l : Option MessageView). IfSome l (λ _. has_end new.put ≡ false)) (sym p.0) tt
pushed_hand (Some m) None old new e p = tt
pushed_hand (Some m) (Some back) old new e p = ap (λ (v : InView). has_end v.put) p.1 ∙ e

pushed_ready : (hand left : Option MessageView) (old new : InView) → hand ≡ None → Pushed hand left old new → left ≡ None
pushed_ready None left old new e p = p.0
pushed_ready (Some m) None old new e p = refl
pushed_ready (Some m) (Some back) old new e p = absurd (true≢false (sym (ap (λ (h : Option MessageView). is_none h) e)))

tried_name : (b : Bool) (old new : InView) → TriedEnd b old new → new.name ≡ old.name
tried_name false old new t = ap (λ (v : InView). v.name) t
tried_name true old new t = elim t [ inl did ↦ ap (λ (v : InView). v.name) did.is | inr full ↦ ap (λ (v : InView). v.name) full.0 ]

tried_texts : (b : Bool) (old new : InView) → TriedEnd b old new → texts new.since ≡ texts old.since
tried_texts false old new t = ap (λ (v : InView). texts v.since) t
tried_texts true old new t = elim t [ inl did ↦ ap (λ (v : InView). texts v.since) did.is ∙ texts_end old.since | inr full ↦ ap (λ (v : InView). texts v.since) full.0 ]

waits_as : (left : Option MessageView) → WaitsAs (flush_of left) (hand_count left)
waits_as None = refl
waits_as (Some m) = omega arith

room_open : (left : Option MessageView) (k : WireMarks) → (marks_roomed (room_of left) k).is_open ≡ k.is_open
room_open None k = refl
room_open (Some m) k = refl

room_ready : (left : Option MessageView) (k : WireMarks) → (k.is_ready ≡ true → left ≡ None) → (marks_roomed (room_of left) k).is_ready ≡ true → left ≡ None
room_ready None k h e = refl
room_ready (Some m) k h e = h e

flush_open : (left : Option MessageView) (k : WireMarks) → (marks_flushed (flush_of left) k).is_open ≡ k.is_open
flush_open None k = refl
flush_open (Some m) k = refl

flush_ready : (left : Option MessageView) (k : WireMarks) → (marks_flushed (flush_of left) k).is_ready ≡ k.is_ready
flush_ready None k = refl
flush_ready (Some m) k = refl

pub roomed_stands : (returned : Room) (hand left : Option MessageView) (old new : InView) (lost s : Bool) (k k' : WireMarks) → IsLaneWire old hand lost s k → k.is_open ≡ true → Pushed hand left old new → returned ≡ room_of left → k' ≡ marks_roomed returned k → IsLaneWire new left lost s k'
roomed_stands returned hand left old new lost s k k' h lawful p a e =
    let is : k' ≡ marks_roomed (room_of left) k = e ∙ ap (λ (r : Room). marks_roomed r k) a in
    let begun : has_end new.put ≡ false = pushed_begun hand left old new (h.begun lawful) p in
    subst (IsLaneWire new left lost s) (sym is) (record {
      lost = (λ _. h.lost lawful);
      unshut = (λ _. h.unshut lawful);
      begun = (λ _. begun);
      hand = pushed_hand hand left old new h.hand p;
      ready = room_ready left k (λ r. pushed_ready hand left old new (h.ready r) p);
    })

pub roomed : (returned : Room) (hand left : Option MessageView) (old new : InView) (inp : OutView) (lost s : Bool) (k k' : WireMarks) → Pushed hand left old new → returned ≡ room_of left → k' ≡ marks_roomed returned k → AfterRoom returned (lane_wire old inp hand lost s k) (lane_wire new inp left lost s k')
roomed returned hand left old new inp lost s k k' p a e =
    subst (λ (z : WireMarks). AfterRoom returned (lane_wire old inp hand lost s k) (lane_wire new inp left lost s z)) (sym e)
    (after_room returned (OverLanes old.name inp.name) (OverLanes new.name inp.name) (Some (came_of lost inp.since)) (Some (came_of lost inp.since))
    (Some (texts old.since ++ hand_texts hand)) (Some (texts new.since ++ hand_texts left)) (hand_count hand) (hand_count left) s k
    (ap (λ n. OverLanes n inp.name) (pushed_name hand left old new p)) refl (ap (λ (l : List (List ℕ)). Some l) (pushed_texts hand left old new p)) (pushed_count hand left old new p))

-- while a message is in hand no end mark is tried
tried_late : (s : Bool) (left : Option MessageView) (mid new : InView) → IfSome left (λ _. has_end mid.put ≡ false) → TriedEnd (s && (is_none left && not (has_end mid.put))) mid new → IfSome left (λ _. has_end new.put ≡ false)
tried_late s None mid new e t = tt
tried_late false (Some m) mid new e t = ap (λ (v : InView). has_end v.put) t ∙ e
tried_late true (Some m) mid new e t = ap (λ (v : InView). has_end v.put) t ∙ e

-- of a wire that wasn't shut no end mark is tried
tried_unshut : (s : Bool) (b : Bool) (mid new : InView) → s ≡ false → TriedEnd (s && b) mid new → new ≡ mid
tried_unshut false b mid new e t = t
tried_unshut true b mid new e t = absurd (true≢false e)

pub flushed_stands : (returned : WireFlush) (hand left : Option MessageView) (old new : InView) (lost s : Bool) (k k' : WireMarks) → IsLaneWire old hand lost s k → Drained s hand left old new → returned ≡ flush_of left → k' ≡ marks_flushed returned k → IsLaneWire new left lost s k'
flushed_stands returned hand left old new lost s k k' h d a e =
    let is : k' ≡ marks_flushed (flush_of left) k = e ∙ ap (λ (r : WireFlush). marks_flushed r k) a in
    subst (IsLaneWire new left lost s) (sym is) (record {
      lost = (λ o. h.lost (sym (flush_open left k) ∙ o));
      unshut = (λ o. h.unshut (sym (flush_open left k) ∙ o));
      begun = (λ o.
          let lawful = sym (flush_open left k) ∙ o in
          ap (λ (v : InView). has_end v.put) (tried_unshut s (is_none left && not (has_end d.mid.put)) d.mid new (h.unshut lawful) d.ends) ∙ pushed_begun hand left old d.mid (h.begun lawful) d.pushed);
      hand = tried_late s left d.mid new (pushed_hand hand left old d.mid h.hand d.pushed) d.ends;
      ready = (λ r. pushed_ready hand left old d.mid (h.ready (sym (flush_ready left k) ∙ r)) d.pushed);
    })

pub flushed : (returned : WireFlush) (hand left : Option MessageView) (old new : InView) (inp : OutView) (lost s : Bool) (k k' : WireMarks) → Drained s hand left old new → returned ≡ flush_of left → k' ≡ marks_flushed returned k → AfterFlush returned (lane_wire old inp hand lost s k) (lane_wire new inp left lost s k')
flushed returned hand left old new inp lost s k k' d a e =
    let b : Bool = s && (is_none left && not (has_end d.mid.put)) in
    subst (λ (z : WireMarks). AfterFlush returned (lane_wire old inp hand lost s k) (lane_wire new inp left lost s z)) (sym e)
    (after_flush returned (OverLanes old.name inp.name) (OverLanes new.name inp.name) (Some (came_of lost inp.since)) (Some (came_of lost inp.since))
    (Some (texts old.since ++ hand_texts hand)) (Some (texts new.since ++ hand_texts left)) (hand_count hand) (hand_count left) s k
    (ap (λ n. OverLanes n inp.name) (tried_name b d.mid new d.ends ∙ pushed_name hand left old d.mid d.pushed)) refl
    (ap (λ (l : List (List ℕ)). Some l) (ap (λ t. t ++ hand_texts left) (tried_texts b d.mid new d.ends) ∙ pushed_texts hand left old d.mid d.pushed))
    (pushed_count hand left old d.mid d.pushed) (subst (λ (r : WireFlush). WaitsAs r (hand_count left)) (sym a) (waits_as left)))
