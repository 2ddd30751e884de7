use Rattle.sp_socket.proofs.Waits.{still_of}
use Rattle.bench_socket.proofs.work.receive.Goals as goal

pub returns : goal.returns
returns g c = still_of c.args.socket.now c.args.pass.now c.try_recv.new.pass c.try_recv.ensures.pass.same c.requires
