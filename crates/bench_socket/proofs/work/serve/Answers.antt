use Rattle.sp_socket.proofs.Waits.{still_of}
use Rattle.bench_socket.proofs.work.serve.Goals as goal

pub returns-clause-own : goal.returns-clause-own
returns-clause-own g c = still_of c.args.socket.now c.args.pass.now c.serve.new.pass c.serve.ensures.pass.same c.requires
