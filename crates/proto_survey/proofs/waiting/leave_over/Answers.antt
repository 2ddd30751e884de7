use Rattle.std.proofs.Common.{◌∙◌, ap, slice_index_or}
use Rattle.std.specs.Prelude.{Option}
use Rattle.proto_survey.specs.declared.waiting.SurveyEnd.{SurveyEnd}
use Rattle.proto_survey.specs.declared.waiting.SurveyEnd.TheVariants as ends
use Rattle.proto_survey.specs.Lives.{over_on}
use Rattle.proto_survey.specs.Askings.{left_by, ended_by}
use Rattle.proto_requests.proofs.Positions.{written}
use Rattle.proto_survey.proofs.waiting.leave_over.Goals as goal

pub loop-w-preserved : goal.loop-w-preserved
loop-w-preserved c = written (left_by (over_on c.args.time c.args.now c.args.live.now) ends.Over) c.args.waiting.now c.loop-w.waiting c.loop-w.w-index c.w-item.result _ c.loop-w-test.true c.loop-w.invariant (let y = slice_index_or c.loop-w.waiting c.loop-w.w-index c.w-item.result in ap (λ (o : Option SurveyEnd). record { op = y.op; ctx = y.ctx; message = y.message; ended = o }) (c.ended_by-w.ensures ∙ ap (λ b. ended_by b ends.Over y.ended) c.is_over_on.ensures))
