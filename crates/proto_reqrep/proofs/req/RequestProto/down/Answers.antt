use Rattle.sp_history.specs.Past.{ups}
use Rattle.sp_history.specs.Moments.{past}
use Rattle.proto_requests.proofs.KnownPipes.{down_knows, down_free}
use Rattle.proto_reqrep.specs.Reqs.{late_in, dry_in, is_late}
use Rattle.proto_reqrep.proofs.WorkLeft.{less_free, count_most}
use Rattle.proto_reqrep.proofs.ReqArrivals.{down_items}
use Rattle.proto_reqrep.proofs.RequestsDue.{down_stays, down_only, down_late}
use Rattle.proto_reqrep.proofs.req.RequestProto.down.Goals as goal

pub returns-clause-down : goal.returns-clause-down
returns-clause-down c = λ t why l h.
    let m = c.args.self.now in
    let ps = c.forget.new.self.items in
    let e = c.forget.ensures in (
      h.0,
      down_knows ps m.ports.items t c.args.p why h.1 e,
      λ r. down_items m t c.args.p why h r,
      h.3,
      h.4,
      (c.down.ensures h.3.places (late_in m) (λ o. is_late m.options.resend m.tick ps o) (dry_in m) (ups (past t)) (down_stays m c.args.p ps e, down_only m c.args.p ps e, down_late m c.args.p ps e) h.5.0, h.5.1),
    )

pub returns-clause-left : goal.returns-clause-left
returns-clause-left c =
    λ t op s b l h k. less_free _ _ _ _ _ _ (down_free c.forget.new.self.items c.args.self.now.ports.items t c.args.p h.1 c.forget.ensures k.not_full k.is_up) (count_most _ c.args.self.now.live.items)

pub returns-clause-left_again : goal.returns-clause-left_again
returns-clause-left_again c =
    λ t d r l h k. less_free _ _ _ _ _ _ (down_free c.forget.new.self.items c.args.self.now.ports.items t c.args.p h.1 c.forget.ensures k.not_full k.is_up) (count_most _ c.args.self.now.live.items)
