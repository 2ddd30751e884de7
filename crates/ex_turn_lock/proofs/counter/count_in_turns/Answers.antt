use Rattle.std.proofs.Common.{◌∙◌, ap, subst}
use Rattle.turn_lock.specs.History.{IsByCallers}
use Rattle.turn_lock.proofs.Lists.{new_passes-pop}
use Rattle.ex_turn_lock.proofs.WholeLogs.{whole_count}
use Rattle.ex_turn_lock.proofs.counter.count_in_turns.Goals as goal

pub returns : goal.returns
returns g c = let past = c.end_with_two-pass.result.1.seen in let label = c.end_with_two-pass.result.1.label in let ended = c.end_with_two-pass.ensures in let made = c.in-Ok.ensures.ok in let acted = c.join-first.ensures in
    let last = new_passes-pop _ _ 1 _ _ c.in-Some.second (ap (λ l. l.items) made) c.in-Some.ensures.last in
    let front = new_passes-pop _ _ 0 _ _ c.in-Some-pop.first last.0 c.in-Some-pop.ensures.last in
    let callers = c.pop-2.ensures.same.0 ∙ (c.pop.ensures.same.0 ∙ ap (λ l. l.callers) made) in
    let w = whole_count _ _ _ label _ past _ _ _ _ (subst (λ n. IsByCallers n past) callers ended.callers) front.1 acted.first ended.first last.1 acted.second ended.second in
    let sum = c.into_count-2.ensures ∙ ended.state in record { total = sum; count = sum ∙ w.1; turns = w.0 }
