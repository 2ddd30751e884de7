use Rattle.cat_drill.proofs.DrillCallers.{begins, stays}
use Rattle.cat_drill.proofs.calls.begin_one.Goals as goal

pub returns-in-Ok-clause-calls : goal.returns-in-Ok-clause-calls
returns-in-Ok-clause-calls g c = λ ops h. begins c.args.socket.now c.args.pass.now c.begin_recv.new.pass ops c.in-Ok.op c.in-Ok.ensures.pass c.in-Ok.ensures.open_ h

pub returns-in-Err-clause-calls : goal.returns-in-Err-clause-calls
returns-in-Err-clause-calls g c = λ ops h. stays c.args.socket.now c.args.pass.now c.begin_recv.new.pass ops c.in-Err.ensures.pass h
