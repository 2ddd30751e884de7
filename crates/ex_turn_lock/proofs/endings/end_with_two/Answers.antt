use Rattle.std.proofs.Common.{◌∙◌, subst, Some}
use Rattle.std.proofs.lemmas.List.Elements.{All-pop}
use Rattle.turn_lock.specs.History.{IsByCallers}
use Rattle.turn_lock.specs.Passes.{FitsIn}
use Rattle.ex_turn_lock.proofs.endings.end_with_two.Goals as goal

pub returns : goal.returns
returns g c = let past = c.end.result.1.seen in let label = c.end.result.1.label in
    let second = All-pop (FitsIn past label) _ _ (Some c.args.second) c.give-2.ensures.pass c.end.ensures.passes in
    let first = All-pop (FitsIn past label) _ _ (Some c.args.first) c.give.ensures.pass second.0 in
    let callers = c.give-2.ensures.same.0 ∙ c.give.ensures.same.0 in
    record { state = c.end.ensures.state; label = c.end.ensures.label; first = first.1; second = second.1; others = first.0; callers = subst (λ n. IsByCallers n past) callers c.end.ensures.callers }
