use Rattle.std.proofs.Common.{ℕ, ap}
use Rattle.proto_survey.specs.declared.survey.Survey.{Survey}
use Rattle.proto_survey.proofs.SurveyorMoments.{down_ties}
use Rattle.proto_survey.proofs.survey.SurveyProto.down.Goals as goal

pub returns-clause-down : goal.returns-clause-down
returns-clause-down c = λ t why l h. let was = c.args.self.now in down_ties was (record was { pipes = c.saturating_sub-self.result }) t c.args.p why l h (ap (λ (n : ℕ). let x : Survey = record was { pipes = n } in x) c.saturating_sub-self.ensures)
