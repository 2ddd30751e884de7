use Rattle.std.proofs.Common.{◌∙◌, ap, sym, subst}
use Rattle.std.specs.Prelude.{◌||◌, Bool}
use Rattle.cat_drill.specs.DrillWires.{IsDrillWire}
use Rattle.cat_drill.proofs.DrillWireReads.{pulled}
use Rattle.cat_drill.proofs.drill_wire.DrillWireWire.pull.Goals as goal

pub invariant_of-self : goal.invariant_of-self
invariant_of-self g c =
    subst (IsDrillWire c.pull-returned.new.self) (sym (c.either-self-inside.ensures ∙ ap (λ (b : Bool). c.self.inside.lost || b) c.is_lost.ensures))
    (pulled c.pull-returned.result c.self.inside.wire c.pull-returned.new.self c.self.inside.lost c.pull-returned.ensures.after c.pull-returned.ensures.lane c.self.invariant)
