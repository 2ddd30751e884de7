use Rattle.std.proofs.Common.{refl}
use Rattle.sp_history.specs.Past.{pend}
use Rattle.sp_history.specs.Moments.{past}
use Rattle.proto_pubsub.proofs.Published.{none_given, flooded_ties}
use Rattle.proto_pubsub.proofs.publish.PublishProto.won.Goals as goal

pub returns-clause-given : goal.returns-clause-given
returns-clause-given c = λ t s m o l h k. absurd (none_given c.args.self.now t c.args.op s m h k)

pub returns-clause-flooded : goal.returns-clause-flooded
returns-clause-flooded c =
    λ t s o l h p f.
    let was = c.args.self.now in
    let ended = c.end-sent.ensures.ended (pend (past t)) s h.0.pending p in
    (flooded_ties was (record was { pending = c.end-sent.new.self; copies = c.clear.new.self }) t c.args.op s l h p ended.1.0 refl, ended.1.1)
