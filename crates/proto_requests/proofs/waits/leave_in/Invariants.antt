use Rattle.std.proofs.Common.{◌≡◌, ◌++◌, map, take, drop}
use Rattle.proto_requests.specs.Waits.{left_spot}
use Rattle.proto_requests.proofs.waits.leave_in.Given as goal

abbrev pub invariant-loop-s : goal.invariant-loop-s
invariant-loop-s g l = l.list ≡ map (left_spot g.T.Waiter.context_of g.T.Waiter.left l.fn.c) (take l.s-index l.initial.list) ++ drop l.s-index l.initial.list
