use Rattle.std.proofs.Common.{◌∙◌}
use Rattle.proto_survey.proofs.SurveyorEnds.{given_is}
use Rattle.proto_survey.proofs.survey.SurveyProto.keeps.Goals as goal

pub returns : goal.returns
returns c = λ t l h r o. c.gives.ensures ∙ given_is c.args.self.now t c.args.c h
