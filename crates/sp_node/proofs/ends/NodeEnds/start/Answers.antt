use Rattle.sp_node.proofs.NewEnds.{begins_on}
use Rattle.sp_node.proofs.ends.NodeEnds.start.Goals as goal

pub invariant_of-result : goal.invariant_of-result
invariant_of-result g c =
    let old = c.self.inside in
    begins_on g.L.Link.seen old.single old.ends (g.N.Net.seen old.net) old.inproc old.count c.self.invariant
