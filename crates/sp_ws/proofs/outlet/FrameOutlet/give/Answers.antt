use Rattle.std.proofs.Common.{refl, ap, ◌∙◌}
use Rattle.sp_ws.specs.Views.{FramesView}
use Rattle.sp_ws.proofs.Outlets.{gave_none, gave_more, gave_same}
use Rattle.sp_ws.proofs.outlet.FrameOutlet.give.Goals as goal

pub gives-init : goal.gives-init
gives-init c = (gave_none c.args.self.now c.args.frames.now, refl)

pub gives-preserved : goal.gives-preserved
gives-preserved c = (
  gave_more c.args.self.now c.gives.self c.give_oldest.new.self c.args.frames.now c.gives.frames c.give_oldest.new.frames c.gives.invariant.0 c.in-Done.ensures,
  ap (λ (v : FramesView). v.refusals) c.in-Done.ensures.3.rest ∙ c.gives.invariant.1,
)

pub returns-in-Refused-clause-gave : goal.returns-in-Refused-clause-gave
returns-in-Refused-clause-gave c = absurd c.in-Refused.ensures

pub returns-in-NoMemory-clause-gave : goal.returns-in-NoMemory-clause-gave
returns-in-NoMemory-clause-gave c = gave_same c.args.self.now c.gives.self c.give_oldest.new.self c.args.frames.now c.gives.frames c.give_oldest.new.frames c.gives.invariant.0 c.in-NoMemory.ensures.0 c.in-NoMemory.ensures.1
