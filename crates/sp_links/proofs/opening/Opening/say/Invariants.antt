use Rattle.std.proofs.Common.{◌-◌, length}
use Rattle.sp_links.proofs.Loops.{Saying}
use Rattle.sp_links.proofs.opening.Opening.say.Given as goal

abbrev pub invariant-writes : goal.invariant-writes
invariant-writes g l = Saying g.L.Link.seen l.initial.self l.self

abbrev pub decreases-writes : goal.decreases-writes
decreases-writes g l = length l.self.own - l.self.said
