use Rattle.std.proofs.Common.{refl, ap, length, List, ℕ, ◌∙◌, true, false, ◌≡◌}
use Rattle.proto_survey.proofs.SurveyorArrivals.{recv_ties, raw_send_ties, send_ties}
use Rattle.proto_survey.proofs.SurveyorMoments.{same_live}
use Rattle.proto_survey.proofs.survey.SurveyProto.begin.Goals as goal

pub returns-in-Recv-clause-begun : goal.returns-in-Recv-clause-begun
returns-in-Recv-clause-begun c = rw c.in-Recv.is (λ t d n l h. recv_ties c.args.self.now (record c.args.self.now { waiting = c.wait.new.waiting }) t c.args.op c.args.c d n l h refl c.wait.ensures.items)

pub returns-then-self-clause-begun : goal.returns-then-self-clause-begun
returns-then-self-clause-begun c =
    rw c.in-Send.is
    (λ t d n l h.
    let was = c.args.self.now in
    raw_send_ties was t c.args.op c.args.c c.in-Send.m d n l h (record was { copies = c.in-Ok.copies; waiting = c.wait-then-self.new.waiting }) c.if-self.true refl c.wait-then-self.ensures.items c.in-Ok.ensures.copies c.in-Ok.ensures.all)

pub returns-in-Ok-ask-clause-begun : goal.returns-in-Ok-ask-clause-begun
returns-in-Ok-ask-clause-begun c =
    rw c.in-Send.is
    (λ t d n l h.
    let was = c.args.self.now in
    let asked = c.ask.new.self in
    send_ties was t c.args.op c.args.c c.in-Send.m d n l h asked c.if-self.false c.in-Ok-ask.ensures.asked (record asked { copies = c.in-Ok.copies; waiting = c.wait-in-Ok-ask.new.waiting }) refl c.wait-in-Ok-ask.ensures.items c.in-Ok.ensures.copies c.in-Ok.ensures.all)

pub returns-then-self-clause-copies : goal.returns-then-self-clause-copies
returns-then-self-clause-copies c = rw c.in-Send.is (λ t h. c.in-Ok.ensures.all ∙ h.0.1)

pub returns-in-Ok-ask-clause-copies : goal.returns-in-Ok-ask-clause-copies
returns-in-Ok-ask-clause-copies c = rw c.in-Send.is (λ t h. c.in-Ok.ensures.all ∙ h.0.1)

pub returns-in-Err-ask-clause-same : goal.returns-in-Err-ask-clause-same
returns-in-Err-ask-clause-same c = λ t h. same_live c.args.self.now c.ask.new.self t c.in-Err-ask.ensures.same.1 c.in-Err-ask.ensures.same.0 h

pub returns-in-Err-clause-fits : goal.returns-in-Err-clause-fits
returns-in-Err-clause-fits c = λ t h raw none. let bad : false ≡ true = c.in-Err.ensures.none (h.0.1 ∙ ap (λ (ps : List ℕ). length ps) none) in cc

pub returns-in-Err-ask-clause-fits : goal.returns-in-Err-ask-clause-fits
returns-in-Err-ask-clause-fits c = λ t h raw none. cc
