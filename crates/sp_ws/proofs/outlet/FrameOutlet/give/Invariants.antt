use Rattle.std.proofs.Common.{◌≡◌, length}
use Rattle.sp_ws.specs.Outlets.{Gave}
use Rattle.sp_ws.proofs.outlet.FrameOutlet.give.Given as goal

abbrev pub invariant-gives : goal.invariant-gives
invariant-gives l = Gave l.fn.self l.self l.fn.frames l.frames × (l.frames.refusals ≡ l.fn.frames.refusals)

abbrev pub decreases-gives : goal.decreases-gives
decreases-gives l = length l.self.held
