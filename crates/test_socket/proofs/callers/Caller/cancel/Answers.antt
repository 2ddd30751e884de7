use Rattle.test_socket.proofs.SocketCallers.{rests}
use Rattle.test_socket.proofs.callers.Caller.cancel.Goals as goal

pub returns : goal.returns
returns g c = rests c.args.socket.now c.args.self.now.pass c.cancel.new.pass c.args.self.now.ops.items c.cancel.ensures.still c.requires
