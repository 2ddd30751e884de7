use Rattle.std.proofs.Common.{◌≤◌, sym, arith, Bool}
use Rattle.sp_history.specs.declared.parts.LastOut.{LastOut}
use Rattle.sp_history.specs.Past.{ups}
use Rattle.sp_history.specs.Moments.{past}
use Rattle.proto_reqrep.specs.Reqs.{late_in, dry_in, is_late}
use Rattle.proto_reqrep.proofs.RequestMoments.{wetted_opened}
use Rattle.proto_reqrep.proofs.ReqArrivals.{ticked_asked, later, opened_contexts}
use Rattle.proto_reqrep.proofs.RequestsDue.{tick_stays, tick_only, tick_late, seen_wet}
use Rattle.proto_reqrep.proofs.req.RequestProto.clock.Goals as goal

pub returns-clause-ticked : goal.returns-clause-ticked
returns-clause-ticked c =
    λ t due n l h.
    let was = c.args.self.now in
    let contexts = c.wet.ensures in
    let now = c.args.now in
    let late : LastOut → Bool = λ o. is_late was.options.resend now was.ports.items o in
    let after : was.tick ≤ now = (let k = l.turn.0.itself.0 in let s = h.0.moment in omega (arith, k, s)) in
    let seen = c.tick.ensures h.3.places (late_in was) late (dry_in was) (ups (past t)) (tick_stays was now after, tick_only was now after, tick_late was now) h.5.0 in (
      record { kind = h.0.kind; resend = h.0.resend; moment = sym (later _ _ l.turn.0.itself.0); outs = h.0.outs },
      h.1,
      h.2,
      ticked_asked was t c.args.now due h,
      opened_contexts contexts (wetted_opened was.live.items was.contexts.items _ _ h.4),
      (seen_wet c.tick.new.self late (ups (past t)) was.contexts.items c.wet.new.self.items was.live.items contexts seen, h.5.1),
    )
