use Rattle.std.proofs.Common.{◌≡◌, ◌-◌, length}
use Rattle.sp_tcp.specs.Stages.{gathered}
use Rattle.sp_tcp.proofs.Gathers.{frames_to}
use Rattle.sp_tcp.proofs.outlet.gather.Given as goal

abbrev pub invariant-gathers : goal.invariant-gathers
invariant-gathers l = (l.stage ≡ gathered l.initial.stage l.fn.sent (frames_to l.mark l.waiting.items l.i)) × (l.skip ≡ l.fn.sent - length (frames_to l.mark l.waiting.items l.i))
