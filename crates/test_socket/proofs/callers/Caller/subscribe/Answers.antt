use Rattle.test_socket.proofs.SocketCallers.{stays}
use Rattle.test_socket.proofs.callers.Caller.subscribe.Goals as goal

pub returns : goal.returns
returns g c = stays c.args.socket.now c.args.self.now.pass c.subscribe.new.pass c.args.self.now.ops.items c.subscribe.ensures.pass c.requires
