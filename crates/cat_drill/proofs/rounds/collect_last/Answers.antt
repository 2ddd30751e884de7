use Rattle.cat_drill.proofs.DrillCallers.{last, collects}
use Rattle.cat_drill.proofs.rounds.collect_last.Goals as goal

pub collect_one-requires-clause-op : goal.collect_one-requires-clause-op
collect_one-requires-clause-op g c = last c.args.socket.now c.args.pass.now c.args.ops.now.items c.pop.new.self.items c.in-Some.op c.in-Some.ensures.items c.requires

pub returns-in-Some-clause-calls : goal.returns-in-Some-clause-calls
returns-in-Some-clause-calls g c = collects c.args.socket.now c.args.pass.now c.collect_one.new.pass c.args.ops.now.items c.pop.new.self.items c.in-Some.op c.in-Some.ensures.items c.collect_one.ensures c.requires
