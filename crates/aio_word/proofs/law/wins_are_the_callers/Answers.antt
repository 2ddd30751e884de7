use Rattle.std.proofs.Common.{refl, inl}
use Rattle.aio_word.proofs.law.wins_are_the_callers.Goals as goal

pub returns : goal.returns
returns c slots v known e st =
    let rule = known.1.2 in
    let core = rule.core in
    let w = rule.only_wins core.0 core.1 v.number v.wins (v, known.1.3, inl (known.0, refl, refl)) e st in
    (w.0.0, w.0.1, w.1, w.3)
