use Rattle.std.proofs.lemmas.Result.{on_ok_weaker}
use Rattle.proto_reqrep.proofs.RequestMoments.{opened_before, opened_more}
use Rattle.proto_reqrep.proofs.ReqArrivals.{opened_contexts}
use Rattle.sp_history.specs.Past.{ups}
use Rattle.sp_history.specs.Moments.{past}
use Rattle.proto_reqrep.proofs.RequestsDue.{seen_opened}
use Rattle.proto_reqrep.proofs.req.RequestProto.open_ctx.Goals as goal

pub returns-clause-opened : goal.returns-clause-opened
returns-clause-opened c =
    on_ok_weaker c.open.result (λ opened t l h.
    let was = c.args.self.now in
    let items = opened (opened_before was t c.args.c l h) in
    (h.0, h.1, h.2, h.3, opened_contexts items (opened_more was t c.args.c l h), (seen_opened was (ups (past t)) c.args.c c.open.new.self.items items h.5.0, h.5.1))) c.open.ensures.more
