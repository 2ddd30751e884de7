use Rattle.sp_socket.specs.Passes.{IsOf}
use Rattle.bench_socket.proofs.work.many.Given as goal

abbrev pub invariant-loop : goal.invariant-loop
invariant-loop g l = record { own : IsOf l.socket l.pass }
