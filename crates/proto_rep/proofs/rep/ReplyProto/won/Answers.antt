use Rattle.std.proofs.Common.{refl, arith, sym, ap, subst, ◌≡◌}
use Rattle.proto_requests.specs.Ports.{free_count}
use Rattle.proto_rep.specs.Operations.{count, room}
use Rattle.proto_rep.specs.Reps.{Gives}
use Rattle.sp_history.specs.declared.parts.Begun.{Begun}
use Rattle.proto_rep.specs.declared.rep.Reply.{Reply}
use Rattle.proto_rep.proofs.RepEnds.{all_apart, given_ties, sent_ties, dropped_ties, goes_out, taken, none_taken, recv_isnt_send, recv_isnt_answer, send_isnt_recv}
use Rattle.proto_rep.proofs.Replied.{never_floods}
use Rattle.proto_rep.proofs.rep.ReplyProto.won.Goals as goal

pub returns-in-None-clause-given : goal.returns-in-None-clause-given
returns-in-None-clause-given c = λ t s m o l h k. none_taken c.args.self.now t c.args.op s h k.pending (c.in-None.ensures.found h.waits (all_apart c.args.self.now t h) h.holds)

pub returns-in-None-clause-flooded : goal.returns-in-None-clause-flooded
returns-in-None-clause-flooded c = λ t s o l h p f. never_floods c.args.self.now t h f

pub returns-in-None-clause-dropped : goal.returns-in-None-clause-dropped
returns-in-None-clause-dropped c = λ t s o l h k. none_taken c.args.self.now t c.args.op s h k.pending (c.in-None.ensures.found h.waits (all_apart c.args.self.now t h) h.holds)

pub returns-in-None-clause-sent : goal.returns-in-None-clause-sent
returns-in-None-clause-sent c = λ t p s b o l h k. none_taken c.args.self.now t c.args.op s h k.pending (c.in-None.ensures.found h.waits (all_apart c.args.self.now t h) h.holds)

pub returns-in-Some-answer-clause-given : goal.returns-in-Some-answer-clause-given
returns-in-Some-answer-clause-given c =
    λ t s m o l h k. send_isnt_recv t c.args.op s m c.in-Some.w c.in-Some-answer.r k (taken c.args.self.now t c.args.op s c.in-Some.w h k.pending (c.in-Some.ensures.found h.waits (all_apart c.args.self.now t h) h.holds)) c.in-Some-answer.is

pub returns-in-Some-answer-clause-flooded : goal.returns-in-Some-answer-clause-flooded
returns-in-Some-answer-clause-flooded c = λ t s o l h p f. never_floods c.args.self.now t h f

pub returns-in-Some-answer-clause-dropped : goal.returns-in-Some-answer-clause-dropped
returns-in-Some-answer-clause-dropped c =
    λ t s o l h k.
    let was = c.args.self.now in
    let is : Reply = record { alloc = was.alloc; role = was.role; raw = was.raw; options = was.options; ports = was.ports; kept = was.kept; waiting = c.take.new.self; places = was.places } in (
      dropped_ties was is t c.args.op h (c.take.ensures.rest h.waits (all_apart was t h) h.holds) c.take.ensures.passed refl refl refl (refl, refl, refl),
      (omega (arith, (c.in-Some.ensures.served h.waits h.holds).0), (c.in-Some.ensures.served h.waits h.holds).1),
    )

pub returns-in-Some-answer-clause-sent : goal.returns-in-Some-answer-clause-sent
returns-in-Some-answer-clause-sent c =
    λ t p s b o l h k.
    let was = c.args.self.now in
    let is : Reply = record { alloc = was.alloc; role = was.role; raw = was.raw; options = was.options; ports = was.ports; kept = was.kept; waiting = c.take.new.self; places = was.places } in (
      c.put_out.ensures.message p b o (rw c.in-Some-answer.is (goes_out was t c.args.op p s b c.in-Some.w c.in-Some-answer.r h k (sym (c.in-Some.ensures.found h.waits (all_apart was t h) h.holds)) (taken was t c.args.op s c.in-Some.w h k.pending (c.in-Some.ensures.found h.waits (all_apart was t h) h.holds)) c.in-Some-answer.is)),
      sent_ties was is t c.args.op p b h (c.take.ensures.rest h.waits (all_apart was t h) h.holds) c.take.ensures.passed refl refl refl (refl, refl, refl),
      (omega (arith, (c.in-Some.ensures.served h.waits h.holds).0), (c.in-Some.ensures.served h.waits h.holds).1),
    )

pub returns-in-None-answer-clause-given : goal.returns-in-None-answer-clause-given
returns-in-None-answer-clause-given c =
    λ t s m o l h k.
    let was = c.args.self.now in
    let is = c.give.new.self in
    let same = c.give.ensures.same in
    let g : Gives s.ctx c.give.result was is = subst (λ (q : Begun). Gives q.ctx c.give.result was is) (taken was t c.args.op s c.in-Some.w h k.pending (c.in-Some.ensures.found h.waits (all_apart was t h) h.holds)) c.give.ensures.given in
    let given = given_ties was is t c.args.op s m c.give.result g.0 h k g.1 (rw same.4 (c.take.ensures.rest h.waits (all_apart was t h) h.holds)) (rw same.4 c.take.ensures.passed) same.3 (same.0, same.1, same.2) in
    let long : count is.waiting ≡ count c.take.new.self = ap count same.4 in
    let wide : room is.waiting ≡ room c.take.new.self = ap room same.4 in
    let served = c.in-Some.ensures.served h.waits h.holds in
    let free : free_count is.ports.items ≡ free_count was.ports.items = ap (λ v. free_count v.items) same.3 in (
      given.0,
      given.1,
      (omega (arith, long, free, served.0), omega (arith, wide, served.1)),
    )

pub returns-in-None-answer-clause-flooded : goal.returns-in-None-answer-clause-flooded
returns-in-None-answer-clause-flooded c = λ t s o l h p f. never_floods c.args.self.now t h f

pub returns-in-None-answer-clause-dropped : goal.returns-in-None-answer-clause-dropped
returns-in-None-answer-clause-dropped c =
    λ t s o l h k. recv_isnt_answer t c.args.op s c.in-Some.w k (taken c.args.self.now t c.args.op s c.in-Some.w h k.pending (c.in-Some.ensures.found h.waits (all_apart c.args.self.now t h) h.holds)) c.in-None-answer.is

pub returns-in-None-answer-clause-sent : goal.returns-in-None-answer-clause-sent
returns-in-None-answer-clause-sent c =
    λ t p s b o l h k. recv_isnt_send c.args.self.now t c.args.op p s b c.in-Some.w k (taken c.args.self.now t c.args.op s c.in-Some.w h k.pending (c.in-Some.ensures.found h.waits (all_apart c.args.self.now t h) h.holds)) c.in-None-answer.is

pub returns-in-None-clause-nothing : goal.returns-in-None-clause-nothing
returns-in-None-clause-nothing c = λ t s o h k. refl

pub returns-in-Some-answer-clause-nothing : goal.returns-in-Some-answer-clause-nothing
returns-in-Some-answer-clause-nothing c = λ t s o h k. c.put_out.ensures.nothing o

pub returns-in-None-answer-clause-nothing : goal.returns-in-None-answer-clause-nothing
returns-in-None-answer-clause-nothing c =
    λ t s o h k. recv_isnt_answer t c.args.op s c.in-Some.w k (taken c.args.self.now t c.args.op s c.in-Some.w h k.pending (c.in-Some.ensures.found h.waits (all_apart c.args.self.now t h) h.holds)) c.in-None-answer.is
