use Rattle.test_socket.proofs.SocketCallers.{stays}
use Rattle.test_socket.proofs.callers.Caller.open_ctx.Goals as goal

pub returns : goal.returns
returns g c = stays c.args.socket.now c.args.self.now.pass c.open_ctx.new.pass c.args.self.now.ops.items c.open_ctx.ensures.pass c.requires
