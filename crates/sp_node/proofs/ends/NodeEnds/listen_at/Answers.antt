use Rattle.sp_node.proofs.NewEnds.{listens_on, refused_on, says_listen, says_refused}
use Rattle.sp_node.proofs.ends.NodeEnds.listen_at.Goals as goal

pub invariant_of-self : goal.invariant_of-self
invariant_of-self g c =
    let old = c.self.inside in
    listens_on old.single old.ends c.listen.new.self (g.N.Net.seen old.net) (g.N.Net.seen c.listen.new.net) old.inproc c.listen.new.inproc old.count c.args.addr.now c.args.max c.in-Ok.ensures c.if-self-ge-MOST.false c.self.invariant

pub invariant_of-self-in-Err : goal.invariant_of-self-in-Err
invariant_of-self-in-Err g c =
    let old = c.self.inside in
    refused_on old.single old.ends c.listen.new.self (g.N.Net.seen old.net) (g.N.Net.seen c.listen.new.net) old.inproc c.listen.new.inproc old.count c.args.addr.now c.args.max c.in-Err.why c.in-Err.ensures c.self.invariant

pub returns-in-Ok : goal.returns-in-Ok
returns-in-Ok g c = rw (← c.self.view_is) (
    let old = c.self.inside in
    says_listen old.single old.ends c.listen.new.self (g.N.Net.seen old.net) (g.N.Net.seen c.listen.new.net) old.inproc c.listen.new.inproc old.count c.args.addr.now c.args.max c.in-Ok.ensures c.if-self-ge-MOST.false c.self.invariant)

pub returns-in-Err : goal.returns-in-Err
returns-in-Err g c = rw (c.error_of.ensures, ← c.self.view_is) (
    let old = c.self.inside in
    says_refused old.single old.ends c.listen.new.self (g.N.Net.seen old.net) (g.N.Net.seen c.listen.new.net) old.inproc c.listen.new.inproc old.count c.args.addr.now c.args.max c.in-Err.why c.in-Err.ensures c.self.invariant)
