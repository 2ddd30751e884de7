use Rattle.std.proofs.Common.{rules}
use Rattle.std.specs.Prelude.{not}
use Rattle.std.proofs.lemmas.Fn.{filter_same}
use Rattle.proto_survey.specs.Lives.{SurveyView, is_over}
use Rattle.proto_survey.proofs.survey.end_over.Goals as goal

pub returns : goal.returns
returns c = filter_same _ (λ (x : SurveyView). not (is_over c.args.time c.args.now x)) _ (λ x b f' k. search rules) _ _ c.retain.ensures.filtered
