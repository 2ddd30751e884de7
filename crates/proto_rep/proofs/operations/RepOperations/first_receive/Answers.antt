use Rattle.std.proofs.Common.{◌∙◌}
use Rattle.proto_rep.proofs.ByKind.{first_receives}
use Rattle.proto_rep.proofs.operations.RepOperations.first_receive.Goals as goal

pub returns : goal.returns
returns c = λ ws h. c.first_receive.ensures ∙ first_receives c.args.self.now.receives.items ws h.receives
