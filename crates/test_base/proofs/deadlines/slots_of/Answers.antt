use Rattle.test_base.proofs.DueLists.{first_listed, next_listed}
use Rattle.test_base.proofs.deadlines.slots_of.Goals as goal

pub loop-init : goal.loop-init
loop-init c = λ s e. first_listed c.args.bucket s c.args.wheel.now.lists _ c.requires c.first-at.ensures e

pub loop-preserved : goal.loop-preserved
loop-preserved c = λ s e. next_listed c.in-Some.slot s c.args.wheel.now.lists _ (c.loop.invariant c.in-Some.slot c.in-Some.is) c.next-at.ensures e
