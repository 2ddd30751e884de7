use Rattle.proto_survey.proofs.SurveyorEnds.{goes}
use Rattle.proto_survey.proofs.survey.SurveyProto.goes_to.Goals as goal

pub returns : goal.returns
returns c = λ t s b l h k up. goes c.args.self.now t c.args.op s b c.args.p h k up
