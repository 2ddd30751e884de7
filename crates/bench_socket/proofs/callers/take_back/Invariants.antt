use Rattle.bench_socket.specs.Lent.{AreLent}
use Rattle.bench_socket.proofs.callers.take_back.Given as goal

abbrev pub invariant-loop : goal.invariant-loop
invariant-loop g l = record { lent : AreLent l.socket l.list l.passes.items }
