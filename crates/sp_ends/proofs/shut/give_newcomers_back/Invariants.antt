use Rattle.std.proofs.Common.{length}
use Rattle.sp_ends.proofs.LeavingNet.{GivingLinks}
use Rattle.sp_ends.proofs.shut.give_newcomers_back.Given as goal

abbrev pub invariant-links : goal.invariant-links
invariant-links g l = GivingLinks g.N.L.Link.seen l.initial.newcomers.items l.newcomers.items (g.N.Net.seen l.initial.net) (g.N.Net.seen l.net)

abbrev pub decreases-links : goal.decreases-links
decreases-links g l = length l.newcomers.items
