use Rattle.sp_socket.proofs.Waits.{still_of}
use Rattle.bench_socket.proofs.work.meets.Goals as goal

pub returns : goal.returns
returns g c = still_of c.args.socket.now c.args.pass.now c.met.new.pass c.met.ensures.pass.same c.requires
