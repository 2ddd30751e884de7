use Rattle.bench_socket.specs.Alone.{IsAlone}
use Rattle.bench_socket.proofs.alone.many_alone.Given as goal

abbrev pub invariant-loop : goal.invariant-loop
invariant-loop g l = record { alone : IsAlone g.P.Proto.ties g.P.Proto.room g.W.Wire.shown l.core }
