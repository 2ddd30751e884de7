use Rattle.std.proofs.Common.{◌≡◌, ◌∙◌, refl, sym, ap, None, Some}
use Rattle.sp_history.specs.Lists.{first_word}
use Rattle.proto_live_requests.specs.declared.live.KeptReply.{KeptReply}
use Rattle.proto_reqrep.proofs.ReqArrivals.{none_kept, raw_frames, short_frame, long_frame, short_asked, reply_asked, asked_live, ctxs_replied, some_word, trimmed_is}
use Rattle.proto_requests.proofs.TestValues.{not_both}
use Rattle.proto_reqrep.proofs.RequestMoments.{opened_as}
use Rattle.proto_live_requests.specs.LiveRequests.{waits_for, with_kept}
use Rattle.proto_reqrep.specs.Reqs.{late_in, dry_in}
use Rattle.sp_history.specs.Past.{ups}
use Rattle.sp_history.proofs.Malformed.{by_rule}
use Rattle.sp_history.specs.Moments.{past}
use Rattle.proto_live_requests.proofs.DueRequests.{seen_kept}
use Rattle.proto_reqrep.proofs.req.RequestProto.frame.Goals as goal

pub returns-then-self-clause-kept : goal.returns-then-self-clause-kept
returns-then-self-clause-kept c =
    λ t short l h.
    let was = c.args.self.now in
    raw_frames was c.keep_raw.new.self t c.args.p c.args.m.body c.keep_raw.result short c.if-self.true h c.keep_raw.ensures.same
    (c.keep_raw.ensures.kept (none_kept was t c.args.p c.args.m.body l h c.if-self.true))

pub returns-then-self-clause-memory : goal.returns-then-self-clause-memory
returns-then-self-clause-memory c = λ r. not_both c.if-self.true r

pub returns-in-None-clause-kept : goal.returns-in-None-clause-kept
returns-in-None-clause-kept c =
    λ t short l h.
    let was = c.args.self.now in
    let none : first_word c.args.m.body ≡ None = sym (c.in-None.ensures ∙ ap first_word c.body.ensures) in
    let bad = short_frame was t c.args.m.body h none in
    (bad, (h.0, h.1, λ r. not_both r c.if-self.false, short_asked was t c.args.p c.args.m.body h (by_rule t.z (past t) c.args.p c.args.m.body short ∙ bad), h.4, h.5))

pub returns-in-Some-clause-kept : goal.returns-in-Some-clause-kept
returns-in-Some-clause-kept c =
    λ t short l h.
    let was = c.args.self.now in
    let k : KeptReply = record { pipe = c.args.p; message = c.trim.new.self } in
    let one : first_word c.args.m.body ≡ Some c.in-Some.id = sym (c.in-Some.ensures ∙ ap first_word c.body.ensures) in
    let live = c.keep_reply.ensures.live in (
      long_frame was t c.args.m.body h (some_word _ c.in-Some.id one),
      (
        h.0,
        h.1,
        λ r. not_both r c.if-self.false,
        asked_live live (reply_asked was t c.args.p c.in-Some.id c.args.m.body k short c.if-self.false h one (trimmed_is c.args.p c.args.m c.trim.new.self c.trim.result c.trim.ensures c.requires (some_word _ c.in-Some.id one))),
        opened_as was.live.items _ was.contexts.items _ _ (ctxs_replied c.in-Some.id k was.live.items _ live) h.4,
        (seen_kept was.dues (late_in was) (dry_in was) (ups (past t)) (waits_for c.in-Some.id) (with_kept k) was.live.items _ (λ x. refl) live h.5.0, c.keep_reply.ensures.ready was.waiting.items h.5.1),
      ),
    )
