use Rattle.proto_reqrep.proofs.RequestMoments.{shut_asked, shut_opened}
use Rattle.proto_reqrep.proofs.ReqArrivals.{shut_items, asked_live, opened_live}
use Rattle.proto_live_requests.specs.LiveRequests.{is_live_on, live_ctx}
use Rattle.proto_live_requests.proofs.RequestLives.{distinct_less}
use Rattle.proto_reqrep.proofs.Hinted.{ready_live, keeps_less}
use Rattle.sp_history.specs.Past.{ups}
use Rattle.sp_history.specs.Moments.{past}
use Rattle.proto_reqrep.proofs.RequestsDue.{seen_shut}
use Rattle.proto_reqrep.proofs.req.RequestProto.close_ctx.Goals as goal

pub returns-clause-shut : goal.returns-clause-shut
returns-clause-shut c =
    λ t l h.
    let was = c.args.self.now in
    let rest = c.close.ensures in
    let e = c.take_live.ensures.rest in (
      h.0,
      h.1,
      λ r. shut_items was t c.args.c l h r,
      asked_live e (shut_asked was t c.args.c l h),
      opened_live e (shut_opened was t c.args.c c.close.new.self.items h rest),
      (seen_shut was t (ups (past t)) c.args.c c.take_live.new.self.items c.close.new.self.items h rest e (rw e (distinct_less live_ctx c.args.c was.live.items h.3.places)) h.5.0, ready_live was.ready was.live.items c.take_live.new.self.items was.waiting.items (λ q k. keeps_less q (is_live_on c.args.c) was.live.items c.take_live.new.self.items e k) h.5.1),
    )
