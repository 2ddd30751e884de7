use Rattle.std.proofs.Common.{refl}
use Rattle.proto_shared.specs.declared.pending.Pending.{Pending}
use Rattle.proto_shared.proofs.Waiters.{receive_ends}
use Rattle.proto_shared.proofs.pending.Pending.end_receive.Goals as goal

pub returns-clause-ended : goal.returns-clause-ended
returns-clause-ended c =
    λ ss s h k is.
    let was = c.args.self.now in
    let new : Pending = record { receives = c.take.new.waiting; sends = was.sends } in
    receive_ends was new ss c.args.op s c.take.result h k is c.take.ensures.found c.take.ensures.rest c.take.ensures.len c.take.ensures.capacity refl
