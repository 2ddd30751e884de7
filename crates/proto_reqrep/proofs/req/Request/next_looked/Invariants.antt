use Rattle.std.proofs.Common.{◌≡◌, ℕ, length, map}
use Rattle.sp_history.specs.Once.{AreDistinct}
use Rattle.proto_live_requests.specs.Dues.{AreSeen}
use Rattle.proto_live_requests.specs.LiveRequests.{live_ctx}
use Rattle.proto_reqrep.specs.Reqs.{IsSeen, late_in, dry_in}
use Rattle.proto_reqrep.proofs.req.Request.next_looked.Given as goal

-- those that may be due are still looked at
abbrev pub invariant-loop-c : goal.invariant-loop-c
invariant-loop-c l =
    record {
      same : l.self ≡ record l.fn.self { dues = l.self.dues };
      seen : (last : ℕ) → AreDistinct (map live_ctx l.fn.self.live.items) → IsSeen l.fn.self last → AreSeen l.self.dues (late_in l.fn.self) (dry_in l.fn.self) last l.fn.self.live.items;
      whole : l.self.dues.due.whole ≡ l.fn.self.dues.due.whole;
    }

abbrev pub decreases-loop-c : goal.decreases-loop-c
decreases-loop-c l = length l.self.dues.due.items
