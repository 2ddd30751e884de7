-- What the wire of a drill shows, and what is put in its lane.
use Rattle.std.specs.Prelude.{◌≡◌, ◌%◌, ◌^◌, ℕ, zero, suc, Bool, false, Some}
use Rattle.std.specs.List.{sum}
use Rattle.sp_base.specs.Generator.{next_value}
use Rattle.sp_lane.specs.Lanes.{has_end}
use Rattle.cat_play.specs.Drilling.{values, bodies}
use Rattle.sp_msg.specs.Views.{OverLanes}
use Rattle.sp_lane.specs.Items.{texts}
use Rattle.sp_lane.specs.LaneWires.{LaneWireView}
use Rattle.cat_drill.specs.declared.source.DrillSource.{DrillSource}

-- the wire has the name of its lanes; and what came is what was taken, unless a message was lost
pub record IsDrillWire (w : LaneWireView) (lost : Bool) : Type 0 where
  pub name : w.wire.name ≡ OverLanes w.out.name w.inp.name
  pub came : lost ≡ false → w.wire.came ≡ Some (texts w.inp.taken)

-- the last of that many values after this one
abbrev pub value_after : ℕ → ℕ → ℕ
value_after x zero = x
value_after x (suc n) = value_after (next_value x) n

-- the first values are in the lane or were taken from it, and the source knows the last of them and their sum
pub record IsSource (s : DrillSource) : Type 0 where
  pub begun : has_end s.lane.put ≡ false
  pub texts_are : texts s.lane.put ≡ bodies s.count
  pub value_is : s.value ≡ value_after 0 s.count
  pub total_is : s.total ≡ sum (values s.count) % 2 ^ 64
