use Rattle.sp_fakes.specs.Nets.{IsPast}
use Rattle.sp_fakes.proofs.net.place_of.Given as goal

abbrev pub invariant-loop-at : goal.invariant-loop-at
invariant-loop-at l = IsPast l.addr l.outgoing l.at
