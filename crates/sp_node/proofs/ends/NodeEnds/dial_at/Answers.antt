use Rattle.sp_node.proofs.NewEnds.{dials_on, undialed_on}
use Rattle.sp_node.proofs.ends.NodeEnds.dial_at.Goals as goal

pub invariant_of-self : goal.invariant_of-self
invariant_of-self g c =
    let old = c.self.inside in
    dials_on old.single old.ends c.dial.new.self (g.N.Net.seen old.net) old.inproc old.count c.args.addr.now c.args.max c.in-Ok.ensures c.if-self-ge-MOST.false c.self.invariant

pub invariant_of-self-in-Err : goal.invariant_of-self-in-Err
invariant_of-self-in-Err g c =
    let old = c.self.inside in
    undialed_on old.single old.ends c.dial.new.self (g.N.Net.seen old.net) old.inproc old.count c.args.addr.now c.args.max c.in-Err.why c.in-Err.ensures c.self.invariant
