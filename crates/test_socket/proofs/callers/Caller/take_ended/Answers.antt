use Rattle.test_socket.proofs.SocketCallers.{stays}
use Rattle.test_socket.proofs.callers.Caller.take_ended.Goals as goal

pub returns : goal.returns
returns g c = stays c.args.socket.now c.args.self.now.pass c.take_ended.new.pass c.args.self.now.ops.items c.take_ended.ensures.pass c.requires
