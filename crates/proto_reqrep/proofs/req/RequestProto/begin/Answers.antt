use Rattle.std.proofs.Common.{None, Some, refl, false}
use Rattle.sp_history.specs.Past.{ups}
use Rattle.sp_history.specs.Moments.{past}
use Rattle.proto_reqrep.specs.declared.req.Asking.{Asking}
use Rattle.proto_reqrep.specs.Reqs.{late_in, dry_in}
use Rattle.proto_reqrep.proofs.ReqArrivals.{recv_asked, send_raw_asked, asked_ops, all_begun}
use Rattle.proto_reqrep.proofs.Hinted.{ready_more}
use Rattle.proto_reqrep.proofs.RequestsDue.{kept_back}
use Rattle.proto_reqrep.proofs.req.RequestProto.begin.Goals as goal

pub returns-in-Recv-clause-begun : goal.returns-in-Recv-clause-begun
returns-in-Recv-clause-begun c =
    let was = c.args.self.now in
    let w : Asking = record { op = c.args.op; ctx = c.args.c; message = None; is_orphan = false } in
    rw c.in-Recv.is (λ t d n l h. (h.0, h.1, h.2, asked_ops c.wait.ensures.items (recv_asked was t c.args.op c.args.c d l h), h.4, (h.5.0, rw c.wait.ensures.items (c.look_at.ensures w was.waiting.items refl h.5.1))))

pub returns-then-self-clause-begun : goal.returns-then-self-clause-begun
returns-then-self-clause-begun c =
    let was = c.args.self.now in
    let w : Asking = record { op = c.args.op; ctx = c.args.c; message = Some c.in-Send.m; is_orphan = false } in
    rw c.in-Send.is (λ t d n l h. (h.0, h.1, h.2, asked_ops c.wait-then-self.ensures.items (send_raw_asked was t c.args.op c.args.c c.in-Send.m d c.if-self.true l h), h.4, (h.5.0, ready_more was.ready was.live.items was.waiting.items _ w c.wait-then-self.ensures.items refl h.5.1)))

pub returns-in-Ok-clause-begun : goal.returns-in-Ok-clause-begun
returns-in-Ok-clause-begun c =
    rw c.in-Send.is
    (λ t d n l h.
    let is = c.ask.new.self in
    let a = all_begun c.args.self.now is t c.args.op c.args.c c.in-Send.m d _ c.if-self.false l h c.in-Ok.ensures.asked c.wait-in-Ok.ensures.items in
    (a.0, a.1, a.2, a.3, a.4, (c.shorten.ensures a.3.places (late_in is) (dry_in is) (ups (past t)) a.5.0, a.5.1)))

pub returns-in-Err-clause-same : goal.returns-in-Err-clause-same
returns-in-Err-clause-same c = λ t h. kept_back c.args.self.now c.ask.new.self t c.in-Err.ensures.same h

pub returns-in-Ok-clause-roomy : goal.returns-in-Ok-clause-roomy
returns-in-Ok-clause-roomy c = c.ask.ensures.roomy
