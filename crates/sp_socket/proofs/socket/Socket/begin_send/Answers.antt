use Rattle.sp_history.specs.declared.entry.RecordedAct.TheVariants as acts
use Rattle.sp_proto.specs.Kinds.{text_of}
use Rattle.sp_core.specs.Standing.{began}
use Rattle.sp_socket.specs.Open.{OpensFor}
use Rattle.sp_socket.proofs.OpenForPass.{begun_open, began_open}
use Rattle.sp_socket.proofs.socket.Socket.begin_send.Goals as goal

pub returns-clause-open_ : goal.returns-clause-open_
returns-clause-open_ g c = began_open (OpensFor c.args.pass.now c.act.new.pass) c.act.result (begun_open _ (began c.act.result) c.args.c (acts.Send (text_of c.args.m)) c.args.deadline c.args.pass.now c.act.new.pass c.act.ensures.turn (λ z h t b. b.0) c.act.ensures.pass.same.0)
