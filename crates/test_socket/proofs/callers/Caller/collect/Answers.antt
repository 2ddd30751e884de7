use Rattle.test_socket.proofs.SocketCallers.{last, collects, puts_back}
use Rattle.test_socket.proofs.callers.Caller.collect.Goals as goal

pub collect-requires-clause-op : goal.collect-requires-clause-op
collect-requires-clause-op g c = last c.args.socket.now c.args.self.now.pass c.args.self.now.ops.items c.pop.new.self.items c.in-Some.op c.in-Some.ensures.items c.requires

pub returns-in-Ended : goal.returns-in-Ended
returns-in-Ended g c = collects c.args.socket.now c.args.self.now.pass c.collect.new.pass c.args.self.now.ops.items c.pop.new.self.items c.in-Some.op c.in-Some.ensures.items c.in-Ended.ensures.same c.in-Ended.ensures.open_ c.requires

pub returns-in-NotYet : goal.returns-in-NotYet
returns-in-NotYet g c = puts_back c.args.socket.now c.args.self.now.pass c.collect.new.pass c.args.self.now.ops.items c.pop.new.self.items c.keep.new.ops.items c.in-Some.op c.in-NotYet.op c.in-Some.ensures.items c.keep.ensures c.in-NotYet.ensures.turn.said.0 c.in-NotYet.ensures.same c.in-NotYet.ensures.open_ c.requires
