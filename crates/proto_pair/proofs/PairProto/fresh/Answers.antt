use Rattle.std.proofs.Common.{ap}
use Rattle.std.specs.Prelude.{Option}
use Rattle.proto_pair.specs.declared.Pair.{Pair}
use Rattle.proto_pair.specs.declared.PairPort.{PairPort}
use Rattle.proto_pair.proofs.Paired.{fresh_ties}
use Rattle.proto_pair.proofs.PairProto.fresh.Goals as goal

pub returns-clause-fresh : goal.returns-clause-fresh
returns-clause-fresh c = λ t k l h. let was = c.args.self.now in fresh_ties was (record was { port = c.mark-self.result }) t k h (ap (λ (o : Option PairPort). let n : Pair = record was { port = o } in n) c.mark-self.ensures)
