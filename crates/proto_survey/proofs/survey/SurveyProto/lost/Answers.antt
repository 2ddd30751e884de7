use Rattle.std.proofs.Common.{◌∙◌, sym, arith, refl}
use Rattle.proto_survey.proofs.SurveyorEnds.{none_taken, is_begun, its_lost, recv_is, send_is, none_in, lost_send, lost_receive}
use Rattle.proto_survey.proofs.survey.SurveyProto.lost.Goals as goal

pub returns-in-None-clause-lost : goal.returns-in-None-clause-lost
returns-in-None-clause-lost c = λ t s cause by l h p. none_taken c.args.self.now t c.args.op s h p c.in-None.ensures.found

pub returns-then-is_some-clause-lost : goal.returns-then-is_some-clause-lost
returns-then-is_some-clause-lost c =
    λ t s cause by l h p.
    let was = c.args.self.now in
    let w = c.in-Some.w in
    let its = is_begun was t c.args.op s w h p c.in-Some.ensures.found in (
      its_lost s w its,
      lost_send was t c.args.op s h p (record was { waiting = c.take.new.waiting; copies = c.clear.new.self }) cause by (send_is s w its (sym c.is_some.ensures ∙ c.if-is_some.true)) c.take.ensures.rest refl,
      (omega (arith, c.in-Some.ensures.len), omega (arith, c.in-Some.ensures.len, c.take.ensures.capacity, was.waiting.ok.1)),
    )

pub returns-else-is_some-clause-lost : goal.returns-else-is_some-clause-lost
returns-else-is_some-clause-lost c =
    λ t s cause by l h p.
    let was = c.args.self.now in
    let w = c.in-Some.w in
    let its = is_begun was t c.args.op s w h p c.in-Some.ensures.found in (
      its_lost s w its,
      lost_receive was t c.args.op s h p (record was { waiting = c.take.new.waiting }) cause by (recv_is s w its (none_in w.message (sym c.is_some.ensures ∙ c.if-is_some.false))) c.take.ensures.rest refl,
      (omega (arith, c.in-Some.ensures.len), omega (arith, c.in-Some.ensures.len, c.take.ensures.capacity, was.waiting.ok.1)),
    )
