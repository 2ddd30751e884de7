use Rattle.proto_requests.specs.Waits.{left_spot}
use Rattle.proto_requests.proofs.Positions.{written}
use Rattle.proto_requests.proofs.waits.leave_in.Goals as goal

pub loop-s-preserved : goal.loop-s-preserved
loop-s-preserved g c = written (left_spot g.T.Waiter.context_of g.T.Waiter.left c.args.c) c.args.list.now c.loop-s.list c.loop-s.s-index c.s-item.result _ c.loop-s-test.true c.loop-s.invariant c.leave_spot.ensures
