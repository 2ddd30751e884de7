use Rattle.std.proofs.Common.{ℕ, ap}
use Rattle.proto_bus.specs.declared.Bus.{Bus}
use Rattle.proto_bus.proofs.Bussed.{up_ties}
use Rattle.proto_bus.proofs.BusProto.up.Goals as goal

pub returns-clause-up : goal.returns-clause-up
returns-clause-up c = λ t place limit name calm l h. let was = c.args.self.now in up_ties was (record was { pipes = c.saturating_add-self.result }) t c.args.p place limit name calm l h (ap (λ (n : ℕ). let x : Bus = record was { pipes = n } in x) c.saturating_add-self.ensures)
