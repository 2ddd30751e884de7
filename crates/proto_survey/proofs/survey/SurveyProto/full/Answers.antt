use Rattle.proto_survey.proofs.SurveyorMoments.{full_ties}
use Rattle.proto_survey.proofs.survey.SurveyProto.full.Goals as goal

pub returns-clause-full : goal.returns-clause-full
returns-clause-full c = λ t l h. full_ties c.args.self.now t c.args.p h
