use Rattle.test_socket.proofs.SocketCallers.{stays}
use Rattle.test_socket.proofs.callers.Caller.try_recv.Goals as goal

pub returns : goal.returns
returns g c = stays c.args.socket.now c.args.self.now.pass c.try_recv.new.pass c.args.self.now.ops.items c.try_recv.ensures.pass c.requires
