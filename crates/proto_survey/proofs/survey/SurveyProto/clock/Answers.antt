use Rattle.std.proofs.Common.{◌≡◌, ◌∙◌, sym, ap, refl, map, List, false}
use Rattle.std.specs.List.{list_any}
use Rattle.std.specs.Vec.{with_items}
use Rattle.proto_requests.proofs.Positions.{any_written}
use Rattle.proto_survey.specs.declared.waiting.SurveyEnd.TheVariants as ends
use Rattle.proto_survey.specs.Lives.{SurveyView, is_over, over_on}
use Rattle.proto_survey.specs.Askings.{left_by}
use Rattle.proto_survey.proofs.SurveyorMoments.{ticked_ties, quiet_ties}
use Rattle.proto_survey.proofs.survey.SurveyProto.clock.Goals as goal

pub returns-then-not-has_over-clause-ticked : goal.returns-then-not-has_over-clause-ticked
returns-then-not-has_over-clause-ticked c =
    λ t due n l h.
    let was = c.args.self.now in
    let none : list_any (is_over was.options.survey c.args.now) was.live.items ≡ false = ap (list_any (is_over was.options.survey c.args.now)) (sym c.deref.ensures.value) ∙ sym c.has_over.ensures ∙ c.if-not-has_over.true in
    quiet_ties was t c.args.now due h (record was { tick = c.args.now }) n l refl none

pub returns-clause-ticked : goal.returns-clause-ticked
returns-clause-ticked c =
    λ t due n l h.
    let was = c.args.self.now in
    let f = over_on was.options.survey c.args.now c.deref-2.result.now in
    let ops : (with_items was.waiting c.leave_over.new.waiting).items ≡ map (left_by f ends.Over) was.waiting.items = any_written (left_by f ends.Over) was.waiting c.leave_over.new.waiting c.deref_mut.result.now c.deref_mut.ensures.value c.leave_over.ensures in
    ticked_ties was t c.args.now due h (record was { tick = c.args.now; live = c.end_over.new.live; waiting = with_items was.waiting c.leave_over.new.waiting }) n l refl c.end_over.ensures
    (ops ∙ ap (λ (xs : List SurveyView). map (left_by (over_on was.options.survey c.args.now xs) ends.Over) was.waiting.items) c.deref-2.ensures.value)
