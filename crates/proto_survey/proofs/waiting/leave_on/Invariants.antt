use Rattle.std.proofs.Common.{◌≡◌, ◌++◌, map, take, drop}
use Rattle.std.specs.Prelude.{◌==◌}
use Rattle.proto_survey.specs.declared.waiting.SurveyEnd.TheVariants as ends
use Rattle.proto_survey.specs.Askings.{left_by}
use Rattle.proto_survey.proofs.waiting.leave_on.Given as goal

abbrev pub invariant-loop-w : goal.invariant-loop-w
invariant-loop-w l = l.waiting ≡ map (left_by (λ d. d == l.fn.c) ends.Replaced) (take l.w-index l.initial.waiting) ++ drop l.w-index l.initial.waiting
