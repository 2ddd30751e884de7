use Rattle.std.proofs.Common.{refl}
use Rattle.sp_history.specs.Past.{pend}
use Rattle.sp_history.specs.Moments.{past}
use Rattle.sp_proto.specs.Kinds.{text_of}
use Rattle.proto_bus.proofs.Bussed.{lost_send, lost_receive}
use Rattle.proto_bus.proofs.BusProto.lost.Goals as goal

pub returns-in-Some-clause-lost : goal.returns-in-Some-clause-lost
returns-in-Some-clause-lost c =
    λ t s cause by l h p.
    let was = c.args.self.now in
    let ended = c.in-Some.ensures.ended (pend (past t)) s h.0.pending p in
    (ended.0, lost_send was (record was { pending = c.end.new.self; copies = c.clear.new.self }) t c.args.op s (text_of c.in-Some.message) cause by h p ended.0 ended.1.0 refl, ended.1.1)

pub returns-in-None-clause-lost : goal.returns-in-None-clause-lost
returns-in-None-clause-lost c =
    λ t s cause by l h p.
    let was = c.args.self.now in
    let ended = c.in-None.ensures.ended (pend (past t)) s h.0.pending p in
    (ended.0, lost_receive was (record was { pending = c.end.new.self }) t c.args.op s cause by h p ended.0 ended.1.0 refl, ended.1.1)
