use Rattle.std.proofs.Common.{ap, ◌∙◌}
use Rattle.sp_lane.specs.LaneWires.{LaneWireView}
use Rattle.sp_lane.proofs.LaneWireCalls.{pulled}
use Rattle.sp_lane.proofs.wire.LaneWireWire.pull.Goals as goal

pub returns-clause-after : goal.returns-clause-after
returns-clause-after g c =
    let w = c.self.inside in
    rw (← c.self.view_is)
    (pulled c.pull_from-returned.result w.out w.inp c.pull_from-returned.new.inp w.hand w.lost c.is_lost-self-inside.result w.is_shut w.marks c.pulled.new.self
    c.pull_from-returned.ensures (c.self.invariant.lost (ap (λ (v : LaneWireView). v.wire.is_open) c.self.view_is ∙ c.requires)) c.is_lost-self-inside.ensures c.pulled.ensures)
