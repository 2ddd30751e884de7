use Rattle.std.proofs.Common.{refl}
use Rattle.std.proofs.lemmas.Result.{on_ok_weaker}
use Rattle.proto_survey.proofs.SurveyorMoments.{opened_before, opened_ties}
use Rattle.proto_survey.proofs.survey.SurveyProto.open_ctx.Goals as goal

pub returns-clause-opened : goal.returns-clause-opened
returns-clause-opened c =
    on_ok_weaker c.open.result (λ opened t l h.
    let was = c.args.self.now in
    opened_ties was (record was { contexts = c.open.new.self }) t c.args.c h refl (opened (opened_before was t c.args.c l h))) c.open.ensures.more
