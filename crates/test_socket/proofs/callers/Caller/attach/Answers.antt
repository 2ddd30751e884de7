use Rattle.test_socket.proofs.SocketCallers.{stays}
use Rattle.test_socket.proofs.callers.Caller.attach.Goals as goal

pub returns-clause-calls : goal.returns-clause-calls
returns-clause-calls g c = stays c.args.socket.now c.args.self.now.pass c.attach.new.pass c.args.self.now.ops.items c.attach.ensures.pass c.requires.calls
