use Rattle.std.proofs.Common.{refl, arith}
use Rattle.proto_rep.specs.declared.rep.Reply.{Reply}
use Rattle.proto_rep.proofs.RepEnds.{all_apart, lost_ties, taken, none_taken, its_message, no_message}
use Rattle.proto_rep.proofs.rep.ReplyProto.lost.Goals as goal

pub returns-in-None-clause-lost : goal.returns-in-None-clause-lost
returns-in-None-clause-lost c = λ t s cause by l h p. none_taken c.args.self.now t c.args.op s h p (c.in-None.ensures.found h.waits (all_apart c.args.self.now t h) h.holds)

pub returns-in-Some-answer-clause-lost : goal.returns-in-Some-answer-clause-lost
returns-in-Some-answer-clause-lost c =
    λ t s cause by l h p.
    let was = c.args.self.now in
    let is : Reply = record { alloc = was.alloc; role = was.role; raw = was.raw; options = was.options; ports = was.ports; kept = was.kept; waiting = c.take.new.self; places = was.places } in (
      rw c.in-Some-answer.is (its_message s c.in-Some.w c.in-Some-answer.r (taken was t c.args.op s c.in-Some.w h p (c.in-Some.ensures.found h.waits (all_apart was t h) h.holds)) c.in-Some-answer.is),
      lost_ties was is t c.args.op cause by h (c.take.ensures.rest h.waits (all_apart was t h) h.holds) c.take.ensures.passed refl refl refl (refl, refl, refl),
      (omega (arith, (c.in-Some.ensures.served h.waits h.holds).0), (c.in-Some.ensures.served h.waits h.holds).1),
    )

pub returns-in-None-answer-clause-lost : goal.returns-in-None-answer-clause-lost
returns-in-None-answer-clause-lost c =
    λ t s cause by l h p.
    let was = c.args.self.now in
    let is : Reply = record { alloc = was.alloc; role = was.role; raw = was.raw; options = was.options; ports = was.ports; kept = was.kept; waiting = c.take.new.self; places = was.places } in (
      no_message s c.in-Some.w (taken was t c.args.op s c.in-Some.w h p (c.in-Some.ensures.found h.waits (all_apart was t h) h.holds)) c.in-None-answer.is,
      lost_ties was is t c.args.op cause by h (c.take.ensures.rest h.waits (all_apart was t h) h.holds) c.take.ensures.passed refl refl refl (refl, refl, refl),
      (omega (arith, (c.in-Some.ensures.served h.waits h.holds).0), (c.in-Some.ensures.served h.waits h.holds).1),
    )
