use Rattle.test_socket.proofs.SocketCallers.{last, collects}
use Rattle.test_socket.proofs.callers.Caller.wait.Goals as goal

pub wait-requires-clause-op : goal.wait-requires-clause-op
wait-requires-clause-op g c = last c.args.socket.now c.args.self.now.pass c.args.self.now.ops.items c.pop.new.self.items c.in-Some.op c.in-Some.ensures.items c.requires

pub returns : goal.returns
returns g c = collects c.args.socket.now c.args.self.now.pass c.wait.new.pass c.args.self.now.ops.items c.pop.new.self.items c.in-Some.op c.in-Some.ensures.items c.wait.ensures.same c.wait.ensures.open_ c.requires
