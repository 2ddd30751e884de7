use Rattle.sp_socket.proofs.Waits.{still_of}
use Rattle.bench_socket.proofs.work.wait.Goals as goal

pub returns : goal.returns
returns g c = still_of c.args.socket.now c.args.pass.now c.wait.new.pass c.wait.ensures.same c.requires.own
