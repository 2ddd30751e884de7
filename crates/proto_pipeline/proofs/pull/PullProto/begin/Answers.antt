use Rattle.std.proofs.Common.{refl}
use Rattle.sp_history.specs.Past.{pend}
use Rattle.sp_history.specs.Moments.{past}
use Rattle.proto_pipeline.specs.declared.pull.Pull.{Pull}
use Rattle.proto_pipeline.proofs.PullStands.{begun_act}
use Rattle.proto_pipeline.proofs.pull.PullProto.begin.Goals as goal

pub returns-in-Recv-clause-begun : goal.returns-in-Recv-clause-begun
returns-in-Recv-clause-begun c =
    λ t deadline calm l h.
    let was = c.args.self.now in
    let is : Pull = record was { waiting = c.push.new.self } in
    begun_act was is t c.args.op c.args.c c.args.act deadline c.in-Recv.is l h (λ free. c.push.ensures.begun (pend (past t)) free h.pending) refl
