use Rattle.std.proofs.Common.{◌≡◌, ◌∙◌, sym, ap, Some}
use Rattle.std.specs.List.{position}
use Rattle.proto_requests.proofs.Positions.{not_found, without_none, without_at}
use Rattle.proto_survey.specs.Lives.{is_live_on}
use Rattle.proto_survey.proofs.survey.end_live.Goals as goal

pub returns-in-None-clause-rest : goal.returns-in-None-clause-rest
returns-in-None-clause-rest c = rw (← c.deref.ensures.value) (without_none (is_live_on c.args.c) _ (not_found (is_live_on c.args.c) _ (sym c.in-None.ensures)))

pub returns-in-Some-clause-rest : goal.returns-in-Some-clause-rest
returns-in-Some-clause-rest c =
    let at : position (is_live_on c.args.c) c.args.live.now.items ≡ Some c.in-Some.i = ap (position (is_live_on c.args.c)) (sym c.deref.ensures.value) ∙ sym c.in-Some.ensures in
    c.remove.ensures.items ∙ without_at (is_live_on c.args.c) c.args.live.now.items c.in-Some.i c.remove.result at
