use Rattle.std.proofs.Common.{length}
use Rattle.sp_ws.specs.Outlets.{Wrote}
use Rattle.sp_ws.proofs.outlet.FrameOutlet.write.Given as goal

abbrev pub invariant-writes : goal.invariant-writes
invariant-writes g l = Wrote l.fn.self l.self l.fn.frames l.frames (g.L.Link.seen l.fn.link) (g.L.Link.seen l.link)

abbrev pub decreases-writes : goal.decreases-writes
decreases-writes g l = length l.frames.waiting
