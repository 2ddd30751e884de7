use Rattle.sp_socket.proofs.Waits.{still_of}
use Rattle.bench_socket.proofs.work.cancel.Goals as goal

pub returns-clause-own : goal.returns-clause-own
returns-clause-own g c = still_of c.args.socket.now c.args.pass.now c.cancel.new.pass c.cancel.ensures.still.same c.requires
