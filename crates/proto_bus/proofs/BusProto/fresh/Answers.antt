use Rattle.proto_bus.proofs.Bussed.{fresh_ties}
use Rattle.proto_bus.proofs.BusProto.fresh.Goals as goal

pub returns-clause-fresh : goal.returns-clause-fresh
returns-clause-fresh c = λ t k l h. fresh_ties c.args.self.now t k l h
