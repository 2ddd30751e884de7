use Rattle.test_socket.proofs.SocketCallers.{ticks}
use Rattle.test_socket.proofs.callers.Caller.tick.Goals as goal

pub returns : goal.returns
returns g c = ticks c.args.socket.now c.args.self.now.pass c.tick.new.pass c.args.self.now.ops.items c.tick.ensures.same c.tick.ensures.open_ c.requires
