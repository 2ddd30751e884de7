use Rattle.test_socket.proofs.SocketCallers.{stays, begins}
use Rattle.test_socket.proofs.callers.Caller.begin_recv.Goals as goal

pub returns-in-Err : goal.returns-in-Err
returns-in-Err g c = stays c.args.socket.now c.args.self.now.pass c.begin_recv.new.pass c.args.self.now.ops.items c.in-Err.ensures.pass c.requires

pub returns-in-Ok : goal.returns-in-Ok
returns-in-Ok g c = begins c.args.socket.now c.args.self.now.pass c.begin_recv.new.pass c.args.self.now.ops.items c.keep.new.ops.items c.in-Ok.op c.in-Ok.ensures.pass c.in-Ok.ensures.open_ c.keep.ensures c.requires
