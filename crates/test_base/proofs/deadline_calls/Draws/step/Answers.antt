use Rattle.std.proofs.Common.{arith, ◌/◌, ◌<◌}
use Rattle.aio_expire.specs.Schedule.{is_of}
use Rattle.test_base.proofs.DueLists.{none_left}
use Rattle.test_base.proofs.deadline_calls.Draws.step.Goals as goal

pub returns : goal.returns
returns c =
    let slot = c.number.result / 288230376151711744 in
    let inside : slot < 64 = omega arith in
    λ es. (tt, ((inside, none_left (is_of slot) es), tt))
