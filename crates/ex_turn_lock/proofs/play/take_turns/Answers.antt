use Rattle.std.proofs.Common.{◌∙◌, ap, subst}
use Rattle.turn_lock.specs.History.{IsByCallers}
use Rattle.turn_lock.proofs.Lists.{new_passes-pop}
use Rattle.ex_turn_lock.proofs.WholeLogs.{whole_log}
use Rattle.ex_turn_lock.proofs.play.take_turns.Goals as goal

pub returns : goal.returns
returns g c = let past = c.end_with_three-core.result.1.seen in let label = c.end_with_three-core.result.1.label in let ended = c.end_with_three-core.ensures in let made = c.in-Ok.ensures.ok in let acted = c.act_all-first.ensures in
    let last = new_passes-pop _ _ 2 _ _ c.in-Some.third (ap (λ l. l.items) made) c.in-Some.ensures.last in
    let middle = new_passes-pop _ _ 1 _ _ c.in-Some-pop.second last.0 c.in-Some-pop.ensures.last in
    let front = new_passes-pop _ _ 0 _ _ c.in-Some-pop-2.first middle.0 c.in-Some-pop-2.ensures.last in
    let callers = c.pop-3.ensures.same.0 ∙ (c.pop-2.ensures.same.0 ∙ (c.pop.ensures.same.0 ∙ ap (λ l. l.callers) made)) in
    whole_log _ _ _ label _ past _ _ _ _ _ _ _ (ap (λ v. v.items) c.into_log-2.ensures ∙ ended.state.0) (subst (λ n. IsByCallers n past) callers ended.callers)
    front.1 acted.first ended.first middle.1 acted.second ended.second last.1 acted.third ended.third
