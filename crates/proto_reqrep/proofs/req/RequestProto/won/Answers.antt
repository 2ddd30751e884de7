use Rattle.std.proofs.Common.{◌∙◌, sym, ap, arith, ◌++◌}
use Rattle.sp_msg.specs.Views.{MessageView}
use Rattle.sp_history.specs.Lists.{word}
use Rattle.proto_reqrep.specs.declared.req.Request.{Request as Machine}
use Rattle.proto_reqrep.proofs.ReqWins.{given_all, sent_all}
use Rattle.proto_reqrep.proofs.ReqStands.{none_taken, is_begun, recv_isnt_send, send_isnt_recv}
use Rattle.proto_reqrep.proofs.req.RequestProto.won.Goals as goal

pub returns-in-None-clause-given : goal.returns-in-None-clause-given
returns-in-None-clause-given c = λ t s m o l h k. none_taken c.args.self.now t c.args.op s h k.pending c.in-None.ensures.found

pub returns-in-None-clause-sent : goal.returns-in-None-clause-sent
returns-in-None-clause-sent c = λ t p s b o l h k. none_taken c.args.self.now t c.args.op s h k.pending c.in-None.ensures.found

pub returns-in-None-message-clause-given : goal.returns-in-None-message-clause-given
returns-in-None-message-clause-given c =
    λ t s m o l h k.
    let was = c.args.self.now in
    let f = c.in-Some.ensures.found in
    let all = given_all was c.give.new.self c.take.new.self t c.args.op s c.in-Some.w h f c.take.ensures.rest (c.give.ensures.same ∙ sym (ap (λ (x : Machine). record { raw = was.raw; options = was.options; tick = was.tick; last_id = was.last_id; last_pipe = x.last_pipe; ports = was.ports; roomy = x.roomy; retried = was.retried; kept = c.give.new.self.kept; live = c.give.new.self.live; dues = x.dues; waiting = c.take.new.self; ready = was.ready; contexts = was.contexts }) c.give.ensures.same)) m c.give.result k c.in-None-message.is (ap (λ (x : Machine). x.last_pipe) c.give.ensures.same) (ap (λ (x : Machine). x.dues) c.give.ensures.same) c.give.ensures.raw c.give.ensures.cooked in
    let room = ap (λ (x : Machine). x.waiting.room) c.give.ensures.same in
    (all.0, all.1, (all.2, omega (arith, room, c.in-Some.ensures.room)))

pub returns-in-None-message-clause-sent : goal.returns-in-None-message-clause-sent
returns-in-None-message-clause-sent c = λ t p s b o l h k. recv_isnt_send t c.args.op p s b c.in-Some.w k (is_begun c.args.self.now t c.args.op s c.in-Some.w h k.pending c.in-Some.ensures.found) c.in-None-message.is

pub returns-in-Some-message-clause-given : goal.returns-in-Some-message-clause-given
returns-in-Some-message-clause-given c = λ t s m o l h k. send_isnt_recv t c.args.op s m c.in-Some.w c.in-Some-message.m k (is_begun c.args.self.now t c.args.op s c.in-Some.w h k.pending c.in-Some.ensures.found) c.in-Some-message.is

pub returns-in-Some-message-clause-sent : goal.returns-in-Some-message-clause-sent
returns-in-Some-message-clause-sent c =
    λ t p s b o l h k.
    let was = c.args.self.now in
    let f = c.in-Some.ensures.found in
    let all = sent_all was c.send.new.self c.take.new.self t c.args.op s c.in-Some.w h f c.take.ensures.rest (c.send.ensures.same ∙ sym (ap (λ (x : Machine). record { raw = was.raw; options = was.options; tick = was.tick; last_id = was.last_id; last_pipe = c.send.new.self.last_pipe; ports = was.ports; roomy = c.send.new.self.roomy; retried = was.retried; kept = x.kept; live = c.send.new.self.live; dues = c.send.new.self.dues; waiting = c.take.new.self; ready = was.ready; contexts = was.contexts }) c.send.ensures.same)) p b c.in-Some-message.m c.send.result k c.in-Some-message.is (ap (λ (x : Machine). x.kept) c.send.ensures.same) (c.send.ensures.pipe p o) (λ r. let v = c.send.ensures.raw r in (v.0 ∙ c.in-Some-message.m-is, v.1, v.2)) (λ r. c.send.ensures.seen r p o) (λ r. c.send.ensures.cooked r p o) (λ r y g. c.send.ensures.message r p o y g ∙ ap (λ (v : MessageView). word y.id ++ v.body) c.in-Some-message.m-is) in
    let room = ap (λ (x : Machine). x.waiting.room) c.send.ensures.same in
    (all.0, all.1, (all.2, omega (arith, room, c.in-Some.ensures.room)))
