use Rattle.sp_socket.proofs.Waits.{still_of, same_twice}
use Rattle.test_socket.proofs.two.ask.Goals as goal

pub wait-requires-clause-own : goal.wait-requires-clause-own
wait-requires-clause-own g c = still_of c.args.socket.now c.args.pass.now c.begin_send.new.pass c.begin_send.ensures.pass.same c.requires

pub returns : goal.returns
returns g c = still_of c.args.socket.now c.args.pass.now c.wait.new.pass (same_twice c.args.pass.now c.begin_send.new.pass c.wait.new.pass c.begin_send.ensures.pass.same c.wait.ensures.same) c.requires
