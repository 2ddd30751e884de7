use Rattle.std.proofs.Common.{ap}
use Rattle.std.specs.Prelude.{not}
use Rattle.proto_requests.proofs.TestValues.{not_both}
use Rattle.proto_survey.proofs.SurveyorEnds.{wants_all}
use Rattle.proto_survey.proofs.survey.SurveyProto.wants.Goals as goal

pub returns-else-not-self : goal.returns-else-not-self
returns-else-not-self c = λ t l h. wants_all c.args.self.now t c.args.p _ h (λ r. ap not c.keeps_of.ensures) (λ r. not_both c.if-not-self.false r)
