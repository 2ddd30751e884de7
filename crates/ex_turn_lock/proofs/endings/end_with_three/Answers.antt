use Rattle.std.proofs.Common.{subst, Some}
use Rattle.std.proofs.lemmas.List.Elements.{All-pop}
use Rattle.turn_lock.specs.History.{IsByCallers}
use Rattle.turn_lock.specs.Passes.{FitsIn}
use Rattle.ex_turn_lock.proofs.endings.end_with_three.Goals as goal

pub returns : goal.returns
returns g c = let ended = c.end_with_two.ensures in let past = c.end_with_two.result.1.seen in let label = c.end_with_two.result.1.label in
    let third = All-pop (FitsIn past label) _ _ (Some c.args.third) c.give.ensures.pass ended.others in
    record { state = ended.state; label = ended.label; first = ended.first; second = ended.second; third = third.1; others = third.0; callers = subst (λ n. IsByCallers n past) c.give.ensures.same.0 ended.callers }
