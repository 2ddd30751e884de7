use Rattle.test_drill.proofs.Racing.{still_calls, still_own}
use Rattle.test_drill.proofs.plays.in_turn.Goals as goal

pub returns : goal.returns
returns g c = record {
  main = still_calls c.args.socket.now c.begin_all-begun.new.pass c.work.new.pass c.begin_all-begun.new.ops.items c.work.ensures c.begin_all-begun.ensures.calls;
  two = still_own c.args.socket.now c.args.callers.two c.work-2.new.pass c.work-2.ensures c.requires.two;
  three = still_own c.args.socket.now c.args.callers.three c.work-3.new.pass c.work-3.ensures c.requires.three;
  four = still_own c.args.socket.now c.args.callers.four c.work-4.new.pass c.work-4.ensures c.requires.four;
}
