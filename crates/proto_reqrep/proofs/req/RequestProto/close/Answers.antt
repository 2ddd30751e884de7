use Rattle.std.proofs.Common.{rules, ◌≡◌, ◌∙◌, [], ap, map}
use Rattle.sp_history.specs.Past.{ups}
use Rattle.sp_history.specs.Moments.{past}
use Rattle.proto_requests.specs.Hints.{HintsView, covers}
use Rattle.proto_live_requests.specs.LiveRequests.{item_of}
use Rattle.proto_reqrep.specs.Reqs.{late_in, dry_in}
use Rattle.proto_reqrep.proofs.ReqArrivals.{closed_asked, closed_opened, asked_live, opened_live}
use Rattle.proto_live_requests.proofs.DueRequests.{seen_none}
use Rattle.proto_reqrep.proofs.Hinted.{ready_none}
use Rattle.proto_reqrep.proofs.req.RequestProto.close.Goals as goal

pub returns-clause-closed : goal.returns-clause-closed
returns-clause-closed c =
    λ t totals l h.
    let was = c.args.self.now in
    let none : c.clear.new.self.items ≡ [] = c.clear.ensures.items in
    let bare : c.clear-4.new.self.items ≡ [] = search rules in (
      h.0,
      h.1,
      λ r. ap (map item_of) bare,
      asked_live none (closed_asked was t totals l h),
      opened_live none (closed_opened was t h),
      (seen_none c.clear-2.new.self (late_in was) (dry_in was) (ups (past t)) c.clear.new.self.items none (λ q k. ap (λ (v : HintsView _). covers v q) c.clear-2.ensures ∙ h.5.0.1 q k), ready_none _ c.clear.new.self.items was.waiting.items none),
    )
