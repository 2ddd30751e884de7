use Rattle.std.proofs.Common.{refl}
use Rattle.proto_rep.specs.declared.rep.Reply.{Reply}
use Rattle.proto_rep.specs.Replies.{can_leave}
use Rattle.proto_rep.proofs.Replied.{waiting_ties}
use Rattle.proto_rep.proofs.rep.ReplyProto.reserve.Goals as goal

pub returns-clause-same : goal.returns-clause-same
returns-clause-same c =
    λ t h.
    let was = c.args.self.now in
    let is : Reply = record { alloc = was.alloc; role = was.role; raw = was.raw; options = was.options; ports = was.ports; kept = was.kept; waiting = c.reserve.new.self; places = was.places } in
    waiting_ties was is t h c.reserve.ensures.same (λ s. c.reserve.ensures.passed (can_leave was.raw was.ports.items) s) refl refl refl (refl, refl, refl)
