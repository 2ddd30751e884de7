use Rattle.sp_node.specs.Nodes.{GoesOn}
use Rattle.sp_node.proofs.node.Node.flush.Given as goal

abbrev pub invariant-rounds : goal.invariant-rounds
invariant-rounds g l = record { goes_on : GoesOn l.fn.self l.self }
