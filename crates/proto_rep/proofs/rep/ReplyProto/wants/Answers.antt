use Rattle.std.proofs.Common.{ap, ◌∙◌}
use Rattle.std.specs.Prelude.{not}
use Rattle.sp_history.specs.Moments.{past}
use Rattle.proto_rep.specs.Reps.{Ties}
use Rattle.proto_rep.proofs.Replied.{is_rep, wants_means}
use Rattle.proto_rep.proofs.rep.ReplyProto.wants.Goals as goal

pub returns : goal.returns
returns c =
    λ t l h.
    let m = c.args.self.now in
    let k : Ties m t = h in
    ap not c.has.ensures ∙ wants_means m.role t.z (past t) c.args.p m.kept.items (is_rep m t k) k.items
