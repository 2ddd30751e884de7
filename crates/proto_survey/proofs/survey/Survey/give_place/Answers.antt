use Rattle.std.proofs.Common.{◌≡◌, ◌∙◌, sym, ap, List, Some, None}
use Rattle.std.specs.Prelude.{find}
use Rattle.std.specs.List.{position}
use Rattle.proto_requests.proofs.Positions.{found_at, not_found}
use Rattle.proto_survey.specs.declared.waiting.SurveyOperation.{SurveyOperation}
use Rattle.proto_survey.specs.Lives.{SurveyView}
use Rattle.proto_survey.specs.Askings.{receives_on}
use Rattle.proto_survey.specs.Surveys.{is_fed}
use Rattle.proto_survey.proofs.Receiving.{cooked_next, cooked_none, none_fed, raw_next, raw_none}
use Rattle.proto_survey.proofs.survey.Survey.give_place.Goals as goal

pub returns-then-self-clause-next : goal.returns-then-self-clause-next
returns-then-self-clause-next c = raw_next c.args.self.now c.raw_place.result c.raw_place.ensures

pub returns-then-self-clause-none : goal.returns-then-self-clause-none
returns-then-self-clause-none c = raw_none c.args.self.now c.raw_place.result c.raw_place.ensures

pub returns-in-None-clause-none : goal.returns-in-None-clause-none
returns-in-None-clause-none c =
    let m = c.args.self.now in
    let at : position (is_fed m.waiting.items) m.live.items ≡ None =
    ap (λ (xs : List SurveyView). position (is_fed m.waiting.items) xs) (sym c.deref.ensures.value) ∙ ap (λ (ws : List SurveyOperation). position (is_fed ws) c.deref.result.now) (sym c.deref-2.ensures.value) ∙ sym c.in-None.ensures in
    none_fed m c.if-self.false (not_found (is_fed m.waiting.items) m.live.items at)

pub returns-in-Some-clause-next : goal.returns-in-Some-clause-next
returns-in-Some-clause-next c =
    let m = c.args.self.now in
    let x = c.index.result.now in
    let at : position (is_fed m.waiting.items) m.live.items ≡ Some c.in-Some.i =
    ap (λ (xs : List SurveyView). position (is_fed m.waiting.items) xs) (sym c.deref.ensures.value) ∙ ap (λ (ws : List SurveyOperation). position (is_fed ws) c.deref.result.now) (sym c.deref-2.ensures.value) ∙ sym c.in-Some.ensures in
    let f : find (is_fed m.waiting.items) m.live.items ≡ Some x = found_at (is_fed m.waiting.items) m.live.items c.in-Some.i x at ∙ ap (λ (y : SurveyView). Some y) (sym c.index.ensures) in
    cooked_next m x c.if-self.false f c.receive_place.result
    (c.receive_place.ensures ∙ ap (λ (ws : List SurveyOperation). position (receives_on c.ctx.result) ws) c.deref-in-Some.ensures.value ∙ ap (λ d. position (receives_on d) m.waiting.items) c.ctx.ensures)

pub returns-in-Some-clause-none : goal.returns-in-Some-clause-none
returns-in-Some-clause-none c =
    let m = c.args.self.now in
    let x = c.index.result.now in
    let at : position (is_fed m.waiting.items) m.live.items ≡ Some c.in-Some.i =
    ap (λ (xs : List SurveyView). position (is_fed m.waiting.items) xs) (sym c.deref.ensures.value) ∙ ap (λ (ws : List SurveyOperation). position (is_fed ws) c.deref.result.now) (sym c.deref-2.ensures.value) ∙ sym c.in-Some.ensures in
    let f : find (is_fed m.waiting.items) m.live.items ≡ Some x = found_at (is_fed m.waiting.items) m.live.items c.in-Some.i x at ∙ ap (λ (y : SurveyView). Some y) (sym c.index.ensures) in
    cooked_none m x c.if-self.false f c.receive_place.result
    (c.receive_place.ensures ∙ ap (λ (ws : List SurveyOperation). position (receives_on c.ctx.result) ws) c.deref-in-Some.ensures.value ∙ ap (λ d. position (receives_on d) m.waiting.items) c.ctx.ensures)
