use Rattle.test_socket.proofs.SocketCallers.{stays}
use Rattle.test_socket.proofs.callers.Caller.close.Goals as goal

pub returns : goal.returns
returns g c = stays c.args.socket.now c.args.self.now.pass c.close.new.pass c.args.self.now.ops.items c.close.ensures.pass c.requires
