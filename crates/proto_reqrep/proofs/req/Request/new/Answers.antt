use Rattle.std.proofs.Common.{rules}
use Rattle.proto_requests.proofs.TestValues.{not_both}
use Rattle.proto_live_requests.specs.LiveRequests.{dry_at}
use Rattle.proto_reqrep.specs.Reqs.{is_late}
use Rattle.proto_live_requests.proofs.DueRequests.{seen_none}
use Rattle.proto_reqrep.proofs.RequestMoments.{none_asked, none_known, none_opened}
use Rattle.proto_reqrep.proofs.RequestsDue.{none_dry}
use Rattle.proto_reqrep.proofs.Hinted.{ready_none}
use Rattle.proto_reqrep.proofs.req.Request.new.Goals as goal

pub returns-in-Ok : goal.returns-in-Ok
returns-in-Ok c = λ slots callers caller. (
  search rules,
  rw c.new-in-Ok.ensures (none_known c.args.raw c.args.options slots callers caller),
  λ r. search rules,
  rw (c.new-in-Ok-3.ensures.items, c.new-in-Ok-5.ensures) (none_asked c.args.raw c.args.options slots callers caller),
  rw (c.new-in-Ok-3.ensures.items, c.in-Ok.ensures) (none_opened c.args.raw c.args.options slots callers caller),
  (seen_none c.new-in-Ok-4.result (λ o. is_late c.args.options.resend 0 c.new-in-Ok.result.items o) (λ q. dry_at q c.in-Ok.contexts.items) 0 c.new-in-Ok-3.result.items c.new-in-Ok-3.ensures.items (λ q k. not_both k (none_dry q c.in-Ok.contexts.items c.in-Ok.ensures)), ready_none _ c.new-in-Ok-3.result.items c.new-in-Ok-5.result.items c.new-in-Ok-3.ensures.items),
)
