use Rattle.std.proofs.Common.{refl, arith}
use Rattle.sp_history.specs.Past.{pend}
use Rattle.sp_history.specs.Moments.{past}
use Rattle.proto_pair.proofs.Paired.{ended_ties}
use Rattle.proto_pair.proofs.PairProto.lost.Goals as goal

pub returns-clause-lost : goal.returns-clause-lost
returns-clause-lost c =
    λ t s cause by l h p.
    let was = c.args.self.now in
    let ended = c.end.ensures.ended (pend (past t)) s h.pending p in
    (ended.0, ended_ties was (record was { pending = c.end.new.self }) t c.args.op cause by h ended.1.0 refl, (omega (arith, ended.1.1.0), ended.1.1.1))
