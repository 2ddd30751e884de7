use Rattle.std.proofs.Common.{◌≡◌, ◌-◌, length}
use Rattle.sp_links.proofs.Loops.{Hearing}
use Rattle.sp_links.proofs.opening.Opening.hear.Given as goal

abbrev pub invariant-reads : goal.invariant-reads
invariant-reads g l = Hearing g.L.Link.seen l.initial.self l.self × (length l.piece ≡ 256)

abbrev pub decreases-reads : goal.decreases-reads
decreases-reads g l = 8192 - length l.self.came
