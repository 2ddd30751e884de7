-- What a drill's wire has taken.
use Rattle.std.proofs.Common.{◌≡◌, refl, ap, sym, ◌∙◌, List, [], ◌∷◌, ◌++◌, ℕ, Bool, true, false, arith, length, Option, Some, None, inl, inr}
use Rattle.std.specs.Prelude.{◌||◌, ◌&&◌, not, is_none}
use Rattle.sp_msg.specs.Views.{MessageView, WireView, OverLanes, wire_text}
use Rattle.sp_base.specs.Wires.{numbers_of}
use Rattle.sp_msg.specs.declared.wire.WireIn.{WireIn}
use Rattle.sp_msg.specs.declared.wire.WireIn.TheVariants as ins
use Rattle.sp_msg.specs.declared.wire.Room.{Room}
use Rattle.sp_msg.specs.declared.wire.Room.TheVariants as rooms
use Rattle.sp_msg.specs.declared.wire.WireFlush.{WireFlush}
use Rattle.sp_msg.specs.declared.wire.WireFlush.TheVariants as flushes
use Rattle.sp_msg.specs.Wires.{with_text, AfterPull, AfterRoom, AfterPut, AfterFlush, AfterShut, RoomAs, FlushedAs}
use Rattle.cat_drill.specs.DrillWires.{IsDrillWire}
use Rattle.sp_lane.specs.declared.item.LaneItem.{LaneItem}
use Rattle.sp_lane.specs.declared.item.LaneItem.TheVariants as items
use Rattle.sp_lane.specs.Items.{texts}
use Rattle.sp_lane.specs.Lanes.{InView, OutView, has_end}
use Rattle.sp_lane.specs.LaneWires.{LaneWireView, LanePulled, LaneRoomed, LaneFlushed, SameLanes, Pushed, TriedEnd, is_lost}

pub texts_more : (xs : List LaneItem) (m : MessageView) → texts (xs ++ items.Message m ∷ []) ≡ texts xs ++ wire_text m ∷ []
texts_more [] m = refl
texts_more (items.Message x ∷ xs) m = ap (λ (ts : List (List ℕ)). wire_text x ∷ ts) (texts_more xs m)
texts_more (items.End ∷ xs) m = texts_more xs m

texts_end : (xs : List LaneItem) → texts (xs ++ items.End ∷ []) ≡ texts xs
texts_end [] = refl
texts_end (items.Message x ∷ xs) = ap (λ (ts : List (List ℕ)). wire_text x ∷ ts) (texts_end xs)
texts_end (items.End ∷ xs) = texts_end xs

-- the lanes have the names that they had
same_names : (w v : LaneWireView) (lost : Bool) → v.wire.name ≡ w.wire.name → v.out.name ≡ w.out.name → v.inp.name ≡ w.inp.name → IsDrillWire w lost → v.wire.name ≡ OverLanes v.out.name v.inp.name
same_names w v lost n o i f = n ∙ f.name ∙ ap (λ (x : List ℕ). OverLanes x w.inp.name) (sym o) ∙ ap (λ (x : List ℕ). OverLanes v.out.name x) (sym i)

-- nothing was taken
quiet : (w v : LaneWireView) (lost : Bool) → v.wire.name ≡ w.wire.name → v.wire.came ≡ w.wire.came → v.out.name ≡ w.out.name → v.inp ≡ w.inp → IsDrillWire w lost → IsDrillWire v lost
quiet w v lost n c o i f =
    record { name = same_names w v lost n o (ap (λ (x : OutView). x.name) i) f; came = λ l. c ∙ f.came l ∙ ap (λ (x : OutView). Some (texts x.taken)) (sym i) }

either_false : (a b : Bool) → (a || b) ≡ false → a ≡ false
either_false true b h = cc
either_false false b h = refl

pub pulled : (r : WireIn) (w v : LaneWireView) (lost : Bool) → AfterPull r w.wire v.wire → LanePulled r w v → IsDrillWire w lost → IsDrillWire v (lost || is_lost r)
pulled (ins.Message b) w v lost a l f =
    let t = l.inp.1.is in
    record {
      name = same_names w v lost (ap (λ (x : WireView). x.name) a.1) (ap (λ (x : InView). x.name) l.out) (ap (λ (x : OutView). x.name) t) f;
      came = λ x. ap (λ (y : WireView). y.came) a.1 ∙ ap (λ (y : Option (List (List ℕ))). with_text y b.body) (f.came (either_false lost false x)) ∙ ap (λ (y : List ℕ). Some (texts w.inp.taken ++ y ∷ [])) l.inp.3 ∙ ap Some (sym (texts_more w.inp.taken l.inp.0)) ∙ ap (λ (y : OutView). Some (texts y.taken)) (sym t);
    }
pulled ins.NotYet w v lost a l f =
    record {
      name = same_names w v lost (ap (λ (x : WireView). x.name) a) (ap (λ (x : InView). x.name) l.out) (ap (λ (x : OutView). x.name) l.inp.0) f;
      came = λ x. ap (λ (y : WireView). y.came) a ∙ f.came (either_false lost false x) ∙ ap (λ (y : OutView). Some (texts y.taken)) (sym l.inp.0);
    }
pulled ins.Ended w v lost a l f =
    let t = l.inp.is in
    record {
      name = same_names w v lost (ap (λ (x : WireView). x.name) a) (ap (λ (x : InView). x.name) l.out) (ap (λ (x : OutView). x.name) t) f;
      came = λ x. ap (λ (y : WireView). y.came) a ∙ f.came (either_false lost false x) ∙ ap Some (sym (texts_end w.inp.taken)) ∙ ap (λ (y : OutView). Some (texts y.taken)) (sym t);
    }
pulled ins.Malformed w v lost a l f = absurd l.inp
pulled ins.Failed w v lost a l f = absurd l.inp
pulled ins.Refused w v lost a l f = absurd l.inp
pulled ins.NoMemory w v lost a l f =
    let t = l.inp.1.is in
    record {
      name = same_names w v lost (ap (λ (x : WireView). x.name) a) (ap (λ (x : InView). x.name) l.out) (ap (λ (x : OutView). x.name) t) f;
      came = λ x. absurd (not_lost lost x);
    }
  where
    not_lost : (b : Bool) → (b || true) ≡ false → ⊥
    not_lost true h = cc
    not_lost false h = cc

pushed_name : (hand left : Option MessageView) (old new : InView) → Pushed hand left old new → new.name ≡ old.name
pushed_name None left old new p = ap (λ (x : InView). x.name) p.1
pushed_name (Some m) None old new p = ap (λ (x : InView). x.name) p.is
pushed_name (Some m) (Some back) old new p = ap (λ (x : InView). x.name) p.1

tried_name : (b : Bool) (old new : InView) → TriedEnd b old new → new.name ≡ old.name
tried_name false old new t = ap (λ (x : InView). x.name) t
tried_name true old new (inl d) = ap (λ (x : InView). x.name) d.is
tried_name true old new (inr n) = ap (λ (x : InView). x.name) n.0

room_shows : (r : Room) (w v : WireView) → RoomAs r w v → (v.name ≡ w.name) × (v.came ≡ w.came)
room_shows rooms.Yes w v a = (ap (λ (x : WireView). x.name) a, ap (λ (x : WireView). x.came) a)
room_shows rooms.Full w v a = (ap (λ (x : WireView). x.name) a, ap (λ (x : WireView). x.came) a)
room_shows rooms.Failed w v a = (ap (λ (x : WireView). x.name) a, ap (λ (x : WireView). x.came) a)
room_shows rooms.Refused w v a = (ap (λ (x : WireView). x.name) a, ap (λ (x : WireView). x.came) a)
room_shows rooms.NoMemory w v a = (ap (λ (x : WireView). x.name) a, ap (λ (x : WireView). x.came) a)

flush_shows : (r : WireFlush) (w v : WireView) → FlushedAs r w v → (v.name ≡ w.name) × (v.came ≡ w.came)
flush_shows flushes.Empty w v a = (ap (λ (x : WireView). x.name) a.0, ap (λ (x : WireView). x.came) a.0)
flush_shows flushes.NotYet w v a = (ap (λ (x : WireView). x.name) a.0, ap (λ (x : WireView). x.came) a.0)
flush_shows flushes.Failed w v a = (ap (λ (x : WireView). x.name) a.0, ap (λ (x : WireView). x.came) a.0)
flush_shows flushes.Refused w v a = (ap (λ (x : WireView). x.name) a.0, ap (λ (x : WireView). x.came) a.0)
flush_shows flushes.NoMemory w v a = (ap (λ (x : WireView). x.name) a.0, ap (λ (x : WireView). x.came) a.0)

pub roomed : (r : Room) (w v : LaneWireView) (lost : Bool) → AfterRoom r w.wire v.wire → LaneRoomed r w v → IsDrillWire w lost → IsDrillWire v lost
roomed r w v lost a l f = let s = room_shows r w.wire v.wire a.shows in quiet w v lost s.0 s.1 (pushed_name w.hand v.hand w.out v.out l.out) l.inp f

pub flushed : (r : WireFlush) (w v : LaneWireView) (lost : Bool) → AfterFlush r w.wire v.wire → LaneFlushed r w v → IsDrillWire w lost → IsDrillWire v lost
flushed r w v lost a l f =
    let s = flush_shows r w.wire v.wire a.shows in
    quiet w v lost s.0 s.1 (tried_name (w.wire.drains && (is_none v.hand && not (has_end l.out.mid.put))) l.out.mid v.out l.out.ends ∙ pushed_name w.hand v.hand w.out l.out.mid l.out.pushed) l.inp f

pub was_put : (m : MessageView) (w v : LaneWireView) (lost : Bool) → AfterPut m w.wire v.wire → SameLanes w v → IsDrillWire w lost → IsDrillWire v lost
was_put m w v lost a s f = quiet w v lost (ap (λ (x : WireView). x.name) a.shows) (ap (λ (x : WireView). x.came) a.shows) (ap (λ (x : InView). x.name) s.0) s.1 f

pub was_shut : (w v : LaneWireView) (lost : Bool) → AfterShut w.wire v.wire → SameLanes w v → IsDrillWire w lost → IsDrillWire v lost
was_shut w v lost a s f = quiet w v lost (ap (λ (x : WireView). x.name) a) (ap (λ (x : WireView). x.came) a) (ap (λ (x : InView). x.name) s.0) s.1 f

-- ---- Names

drops : {A : Type 0} (xs bs cs ds : List A) → length xs ≡ length cs → xs ++ bs ≡ cs ++ ds → bs ≡ ds
drops [] bs [] ds n e = e
drops [] bs (c ∷ cs) ds n e = absurd (omega (arith, n))
drops (x ∷ xs) bs [] ds n e = absurd (omega (arith, n))
drops {A = A} (x ∷ xs) bs (c ∷ cs) ds n e = drops xs bs cs ds (omega (arith, n)) (ap rest_of e)
  where
    rest_of : List A → List A
    rest_of [] = []
    rest_of (x ∷ xs) = xs

second_of : List ℕ → ℕ
second_of (a ∷ b ∷ xs) = b
second_of _ = 0

past_two : List ℕ → List ℕ
past_two (a ∷ b ∷ xs) = xs
past_two _ = []

pub same_lane : (a b c d : List ℕ) → numbers_of (OverLanes a b) ≡ numbers_of (OverLanes c d) → b ≡ d
unfolding second_of past_two
same_lane a b c d e = drops a b c d (ap second_of e) (ap past_two e)
