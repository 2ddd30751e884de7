use Rattle.proto_bus.proofs.Bussed.{well_formed, frame_ties}
use Rattle.proto_bus.proofs.BusProto.frame.Goals as goal

pub returns-clause-kept : goal.returns-clause-kept
returns-clause-kept c =
    λ t short l h.
    let was = c.args.self.now in
    (well_formed was t c.args.m.body h, frame_ties was t c.args.p c.args.m h short c.try_push_back-discarded.new.self c.received.result c.try_push_back-discarded.result c.received.ensures c.try_push_back-discarded.ensures.variant c.try_push_back-discarded.ensures.ok c.try_push_back-discarded.ensures.err)
