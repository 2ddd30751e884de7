use Rattle.std.proofs.Common.{◌≡◌, ◌∙◌, sym, ap, Some}
use Rattle.std.specs.List.{position}
use Rattle.proto_requests.proofs.Positions.{found_at, not_found, without_none, without_at}
use Rattle.proto_survey.specs.declared.waiting.SurveyOperation.{SurveyOperation}
use Rattle.proto_survey.specs.Askings.{is_asked}
use Rattle.proto_survey.proofs.waiting.take.Goals as goal

pub returns-in-None-clause-found : goal.returns-in-None-clause-found
returns-in-None-clause-found c = rw (← c.deref.ensures.value) (sym (not_found (is_asked c.args.op) _ (sym c.in-None.ensures)))

pub returns-in-None-clause-rest : goal.returns-in-None-clause-rest
returns-in-None-clause-rest c = rw (← c.deref.ensures.value) (without_none (is_asked c.args.op) _ (not_found (is_asked c.args.op) _ (sym c.in-None.ensures)))

pub returns-in-Some-clause-found : goal.returns-in-Some-clause-found
returns-in-Some-clause-found c =
    let at : position (is_asked c.args.op) c.args.waiting.now.items ≡ Some c.in-Some.i = ap (position (is_asked c.args.op)) (sym c.deref.ensures.value) ∙ sym c.in-Some.ensures in
    sym (found_at (is_asked c.args.op) c.args.waiting.now.items c.in-Some.i c.remove.result at ∙ ap (λ (w : SurveyOperation). Some w) (sym c.remove.ensures.value))

pub returns-in-Some-clause-rest : goal.returns-in-Some-clause-rest
returns-in-Some-clause-rest c =
    let at : position (is_asked c.args.op) c.args.waiting.now.items ≡ Some c.in-Some.i = ap (position (is_asked c.args.op)) (sym c.deref.ensures.value) ∙ sym c.in-Some.ensures in
    c.remove.ensures.items ∙ without_at (is_asked c.args.op) c.args.waiting.now.items c.in-Some.i c.remove.result at
