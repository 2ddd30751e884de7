use Rattle.std.proofs.Common.{◌≡◌}
use Rattle.sp_core.specs.Collecting.{IsOpen}
use Rattle.sp_node.specs.Nodes.{IsLater, KeepsOthers}
use Rattle.sp_node.proofs.node.Node.wait.Given as goal

abbrev pub invariant-loop : goal.invariant-loop
invariant-loop g l =
    record { later : IsLater l.fn.self.single l.self.single; op : l.op ≡ l.fn.op; open_ : IsOpen 1 l.op l.self.single.seen; others : KeepsOthers l.fn.op l.fn.self.single l.self.single }
