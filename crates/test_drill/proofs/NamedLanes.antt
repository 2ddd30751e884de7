-- The lanes of a wire keep their names, and a wire that drains goes on draining.
use Rattle.std.proofs.Common.{◌≡◌, ◌&&◌, ap, ◌∙◌, Bool, true, false, not, Option, Some, None, is_none, inl, inr}
use Rattle.sp_msg.specs.Views.{MessageView, WireView}
use Rattle.sp_msg.specs.Wires.{FlushedAs}
use Rattle.sp_msg.specs.declared.wire.Room.{Room}
use Rattle.sp_msg.specs.declared.wire.WireFlush.{WireFlush}
use Rattle.sp_msg.specs.declared.wire.WireFlush.TheVariants as flushes
use Rattle.sp_lane.specs.Lanes.{InView, has_end}
use Rattle.sp_lane.specs.LaneWires.{LaneWireView, LaneRoomed, LaneFlushed, Pushed, TriedEnd}

pushed_name : (hand left : Option MessageView) (old new : InView) → Pushed hand left old new → new.name ≡ old.name
pushed_name None left old new p = ap (λ (x : InView). x.name) p.1
pushed_name (Some m) None old new p = ap (λ (x : InView). x.name) p.is
pushed_name (Some m) (Some back) old new p = ap (λ (x : InView). x.name) p.1

tried_name : (b : Bool) (old new : InView) → TriedEnd b old new → new.name ≡ old.name
tried_name false old new t = ap (λ (x : InView). x.name) t
tried_name true old new (inl d) = ap (λ (x : InView). x.name) d.is
tried_name true old new (inr n) = ap (λ (x : InView). x.name) n.0

pub roomed_name : (r : Room) (w v : LaneWireView) → LaneRoomed r w v → v.out.name ≡ w.out.name
roomed_name r w v l = pushed_name w.hand v.hand w.out v.out l.out

pub flushed_name : (r : WireFlush) (w v : LaneWireView) → LaneFlushed r w v → v.out.name ≡ w.out.name
flushed_name r w v l = tried_name (w.wire.drains && (is_none v.hand && not (has_end l.out.mid.put))) l.out.mid v.out l.out.ends ∙ pushed_name w.hand v.hand w.out l.out.mid l.out.pushed

pub still_drains : (r : WireFlush) (w v : WireView) → FlushedAs r w v → v.drains ≡ w.drains
still_drains flushes.Empty w v a = ap (λ (x : WireView). x.drains) a.0
still_drains flushes.NotYet w v a = ap (λ (x : WireView). x.drains) a.0
still_drains flushes.Failed w v a = ap (λ (x : WireView). x.drains) a.0
still_drains flushes.Refused w v a = ap (λ (x : WireView). x.drains) a.0
still_drains flushes.NoMemory w v a = ap (λ (x : WireView). x.drains) a.0
