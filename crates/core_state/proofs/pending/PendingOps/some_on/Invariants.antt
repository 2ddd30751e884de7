use Rattle.std.proofs.Common.{length}
use Rattle.core_state.specs.Pendings.{IsNextIn, in_bucket, left_of, bucket_of}
use Rattle.core_state.proofs.Walks.{AreLeft}
use Rattle.core_state.proofs.pending.PendingOps.some_on.Given as goal

-- the next operation is in the bucket, and all those of the context are still to come
abbrev pub invariant-loop-next : goal.invariant-loop-next
invariant-loop-next l =
    record {
      there : IsNextIn l.next (in_bucket l.fn.self.slots (bucket_of l.fn.self.slots l.fn.ctx) l.fn.self.items);
      left : AreLeft l.fn.ctx l.fn.self.items (left_of l.next (in_bucket l.fn.self.slots (bucket_of l.fn.self.slots l.fn.ctx) l.fn.self.items));
    }

abbrev pub decreases-loop-next : goal.decreases-loop-next
decreases-loop-next l = length (left_of l.next (in_bucket l.fn.self.slots (bucket_of l.fn.self.slots l.fn.ctx) l.fn.self.items))
