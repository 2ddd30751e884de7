use Rattle.std.proofs.Common.{◌∙◌, arith, ap, map}
use Rattle.proto_live_requests.specs.LiveRequests.{is_live_on}
use Rattle.proto_reqrep.specs.Reqs.{is_asked, late_in, dry_in, orphaned}
use Rattle.proto_reqrep.proofs.ReqStands.{none_taken, is_begun, lost_raw, lost_orphan, lost_live, its_lost}
use Rattle.proto_reqrep.proofs.ReqArrivals.{asked_live, asked_ops, opened_live}
use Rattle.proto_reqrep.proofs.RequestMoments.{opened_less}
use Rattle.proto_reqrep.proofs.Hinted.{ready_live, ready_fewer, ready_marked, keeps_less}
use Rattle.proto_reqrep.proofs.WorkLeft.{less_waiting, fewer_live, fewer_due, fewer_ops, fewer_marked, not_true, not_false}
use Rattle.proto_reqrep.proofs.req.RequestProto.lost.Goals.{else-not-self-via-then-not-self+else-not-w, else-not-self-via-else-not-self}
use Rattle.sp_history.specs.Past.{ups}
use Rattle.sp_history.specs.Moments.{past}
use Rattle.proto_live_requests.proofs.DueRequests.{seen_less}
use Rattle.proto_reqrep.proofs.req.RequestProto.lost.Goals as goal

pub returns-in-None-clause-lost : goal.returns-in-None-clause-lost
returns-in-None-clause-lost c = λ t s cause by l h p. none_taken c.args.self.now t c.args.op s h p c.in-None.ensures.found

pub returns-then-not-w-clause-lost : goal.returns-then-not-w-clause-lost
returns-then-not-w-clause-lost c =
    λ t s cause by l h p.
    let was = c.args.self.now in
    let w = c.in-Some.w in
    let f = c.in-Some.ensures.found in
    let live = c.take_live.ensures.rest in
    let ops = c.leave_behind.ensures.items in (
      its_lost s w (is_begun was t c.args.op s w h p f),
      (
        h.0,
        h.1,
        h.2,
        asked_live live (asked_ops (ops ∙ ap (map (orphaned w.ctx)) c.take.ensures.rest) (lost_live was t c.args.op s w cause by h p f c.if-not-self.true (not_true w.is_orphan c.if-not-w.true))),
        opened_live live (opened_less w.ctx was.live.items was.contexts.items _ _ h.4),
        (seen_less was.dues (late_in was) (dry_in was) (ups (past t)) (is_live_on w.ctx) was.live.items c.take_live.new.self.items live h.5.0, ready_marked was.ready c.take_live.new.self.items w.ctx c.take.new.self.items _ ops (ready_live was.ready was.live.items c.take_live.new.self.items c.take.new.self.items (λ q k. keeps_less q (is_live_on w.ctx) was.live.items c.take_live.new.self.items live k) (ready_fewer was.ready was.live.items (is_asked c.args.op) was.waiting.items c.take.new.self.items c.take.ensures.rest h.5.1))),
      ),
      (
        less_waiting _ _ _ _ _ _ _ (fewer_live w.ctx was.live.items _ live) (fewer_due _ w.ctx was.live.items _ live) (fewer_marked (is_asked c.args.op) (orphaned w.ctx) was.waiting.items c.take.new.self.items _ w f c.take.ensures.rest ops),
        omega (arith, c.leave_behind.ensures.room, c.in-Some.ensures.room),
      ),
    )

pub returns-else-not-self-clause-lost : goal.returns-else-not-self-clause-lost
returns-else-not-self-clause-lost c =
    λ t s cause by l h p.
    let was = c.args.self.now in
    let w = c.in-Some.w in
    let f = c.in-Some.ensures.found in (
      its_lost s w (is_begun was t c.args.op s w h p f),
      (
        h.0,
        h.1,
        h.2,
        asked_ops c.take.ensures.rest (elim c.else-not-self.branch [
          | else-not-self-via-then-not-self+else-not-w v ↦ lost_orphan was t c.args.op s w cause by h p f v.if-not-self.true (not_false w.is_orphan v.if-not-w.false)
          | else-not-self-via-else-not-self v ↦ lost_raw was t c.args.op s w cause by h p f v.if-not-self.false
        ]),
        h.4,
        (h.5.0, ready_fewer was.ready was.live.items (is_asked c.args.op) was.waiting.items c.take.new.self.items c.take.ensures.rest h.5.1),
      ),
      (
        less_waiting _ _ _ _ _ _ _ (omega arith) (omega arith) (fewer_ops (is_asked c.args.op) was.waiting.items _ w f c.take.ensures.rest),
        omega (arith, c.in-Some.ensures.room),
      ),
    )
