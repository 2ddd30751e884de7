use Rattle.std.proofs.Common.{◌∙◌, sym}
use Rattle.proto_survey.proofs.Receiving.{none_gets}
use Rattle.proto_survey.proofs.survey.Survey.raw_place.Goals as goal

pub returns-then-not-gives : goal.returns-then-not-gives
returns-then-not-gives c = none_gets c.args.self.now 0 c.requires (sym c.gives.ensures ∙ c.if-not-gives.true)
