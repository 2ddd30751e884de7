use Rattle.std.proofs.Common.{◌≡◌}
use Rattle.std.specs.FinMap.{find}
use Rattle.std.specs.Ordering.{nat_cmp}
use Rattle.sp_fakes.specs.Nets.{returned_entries}
use Rattle.sp_fakes.proofs.net.MemNet.returned.Given as goal

abbrev pub invariant-loop-rest : goal.invariant-loop-rest
invariant-loop-rest l = find nat_cmp l.place (returned_entries l.rest) ≡ find nat_cmp l.place (returned_entries l.self.returned)
