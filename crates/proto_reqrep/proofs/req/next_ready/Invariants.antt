use Rattle.std.proofs.Common.{◌≡◌, length}
use Rattle.proto_reqrep.specs.Reqs.{AreReady}
use Rattle.proto_reqrep.proofs.req.next_ready.Given as goal

-- those that are worth it are still looked at
abbrev pub invariant-loop-c : goal.invariant-loop-c
invariant-loop-c l =
    record {
      ready : AreReady l.fn.ready l.live.items l.waiting.items → AreReady l.ready l.live.items l.waiting.items;
      whole : l.ready.whole ≡ l.fn.ready.whole;
    }

abbrev pub decreases-loop-c : goal.decreases-loop-c
decreases-loop-c l = length l.ready.items
