use Rattle.std.proofs.Common.{◌≡◌, ◌++◌, take, drop}
use Rattle.std.specs.VecDeque.{deque_capacity}
use Rattle.sp_ws.specs.Outlets.{passed}
use Rattle.sp_ws.proofs.outlet.pass.Given as goal

abbrev pub invariant-ends : goal.invariant-ends
invariant-ends l =
    (l.ends.items ≡ drop l.counter l.fn.ends.items ++ passed l.n (take l.counter l.fn.ends.items))
    × (deque_capacity l.ends ≡ deque_capacity l.fn.ends)
