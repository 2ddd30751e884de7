use Rattle.std.proofs.Common.{ℕ, ap}
use Rattle.proto_pubsub.specs.declared.publish.Publish.{Publish}
use Rattle.proto_pubsub.proofs.Published.{down_ties}
use Rattle.proto_pubsub.proofs.publish.PublishProto.down.Goals as goal

pub returns-clause-down : goal.returns-clause-down
returns-clause-down c = λ t why l h. let was = c.args.self.now in down_ties was (record was { pipes = c.saturating_sub-self.result }) t c.args.p why l h (ap (λ (n : ℕ). let x : Publish = record was { pipes = n } in x) c.saturating_sub-self.ensures)
