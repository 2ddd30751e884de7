use Rattle.std.proofs.Common.{refl}
use Rattle.proto_survey.proofs.SurveyorMoments.{shut_ties}
use Rattle.proto_survey.proofs.survey.SurveyProto.close_ctx.Goals as goal

pub returns-clause-shut : goal.returns-clause-shut
returns-clause-shut c =
    λ t l h.
    let was = c.args.self.now in
    shut_ties was t c.args.c l h (record was { contexts = c.close.new.self; live = c.end_live.new.live }) refl c.close.ensures c.end_live.ensures.rest
