use Rattle.std.proofs.Common.{◌≡◌, length, false}
use Rattle.std.specs.List.{list_any}
use Rattle.proto_requests.specs.Spots.{held}
use Rattle.proto_requests.specs.Waits.{is_overlooked}
use Rattle.proto_requests.proofs.waits.next_over.Given as goal

-- each is still looked at
abbrev pub invariant-loop-op : goal.invariant-loop-op
invariant-loop-op g l =
    let W = g.T.Waiter in
    record {
      seen : list_any (is_overlooked W.name_of W.is_left l.fn.ended) (held l.list) ≡ false → list_any (is_overlooked W.name_of W.is_left l.ended) (held l.list) ≡ false;
      whole : l.ended.whole ≡ l.fn.ended.whole;
    }

abbrev pub decreases-loop-op : goal.decreases-loop-op
decreases-loop-op g l = length l.ended.items
