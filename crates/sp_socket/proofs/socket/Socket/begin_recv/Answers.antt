use Rattle.sp_history.specs.declared.entry.RecordedAct.TheVariants as acts
use Rattle.sp_socket.proofs.OpenForPass.{begun_open}
use Rattle.sp_socket.proofs.socket.Socket.begin_recv.Goals as goal

pub returns-clause-open_ : goal.returns-clause-open_
returns-clause-open_ g c = begun_open _ c.act.result c.args.c acts.Recv c.args.deadline c.args.pass.now c.act.new.pass c.act.ensures.turn (λ z h t b. b.0) c.act.ensures.pass.same.0
