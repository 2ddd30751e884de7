use Rattle.test_socket.proofs.SocketCallers.{stays}
use Rattle.test_socket.proofs.callers.Caller.serve.Goals as goal

pub returns : goal.returns
returns g c = stays c.args.socket.now c.args.self.now.pass c.serve.new.pass c.args.self.now.ops.items c.serve.ensures.pass c.requires
