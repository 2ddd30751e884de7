use Rattle.std.proofs.Common.{rules, refl, ◌≡◌, []}
use Rattle.proto_survey.proofs.SurveyorMoments.{closed_ties}
use Rattle.proto_survey.proofs.survey.SurveyProto.close.Goals as goal

pub returns-clause-closed : goal.returns-clause-closed
returns-clause-closed c =
    λ t totals l h.
    let was = c.args.self.now in
    let none : c.clear.new.self.items ≡ [] = search rules in
    let bare : c.clear-2.new.self.items ≡ [] = search rules in
    closed_ties was (record was { live = c.clear.new.self; kept = c.clear-2.new.self }) t totals l h refl none bare
