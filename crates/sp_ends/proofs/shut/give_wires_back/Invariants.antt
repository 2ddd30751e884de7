use Rattle.std.proofs.Common.{length}
use Rattle.sp_ends.proofs.LeavingNet.{GivingWires}
use Rattle.sp_ends.proofs.shut.give_wires_back.Given as goal

abbrev pub invariant-wires : goal.invariant-wires
invariant-wires g l = GivingWires l.initial.wires l.wires (g.N.Net.seen l.initial.net) (g.N.Net.seen l.net)

abbrev pub decreases-wires : goal.decreases-wires
decreases-wires g l = length l.wires
