use Rattle.test_socket.proofs.SocketCallers.{rests}
use Rattle.test_socket.proofs.callers.Caller.poll.Goals as goal

pub returns : goal.returns
returns g c = rests c.args.socket.now c.args.self.now.pass c.poll.new.pass c.args.self.now.ops.items c.poll.ensures.still c.requires
