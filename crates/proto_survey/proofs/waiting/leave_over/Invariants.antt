use Rattle.std.proofs.Common.{◌≡◌, ◌++◌, map, take, drop}
use Rattle.proto_survey.specs.declared.waiting.SurveyEnd.TheVariants as ends
use Rattle.proto_survey.specs.Lives.{over_on}
use Rattle.proto_survey.specs.Askings.{left_by}
use Rattle.proto_survey.proofs.waiting.leave_over.Given as goal

abbrev pub invariant-loop-w : goal.invariant-loop-w
invariant-loop-w l = l.waiting ≡ map (left_by (over_on l.fn.time l.fn.now l.fn.live) ends.Over) (take l.w-index l.initial.waiting) ++ drop l.w-index l.initial.waiting
