use Rattle.proto_survey.proofs.SurveyorMoments.{fresh_ties}
use Rattle.proto_survey.proofs.survey.SurveyProto.fresh.Goals as goal

pub returns-clause-fresh : goal.returns-clause-fresh
returns-clause-fresh c = λ t k l h. fresh_ties c.args.self.now t k l h
