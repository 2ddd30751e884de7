use Rattle.std.proofs.Common.{◌∙◌}
use Rattle.proto_rep.proofs.ByKind.{receiving_on}
use Rattle.proto_rep.proofs.operations.RepOperations.is_receiving.Goals as goal

pub returns : goal.returns
returns c = λ ws h. c.is_receiving.ensures ∙ receiving_on c.args.c c.args.self.now.receives.items ws h.receives
