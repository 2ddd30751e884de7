use Rattle.std.proofs.Common.{[], ◌∷◌, refl, arith, length-append}
use Rattle.turn_lock.specs.declared.turn.Turn.{Turn}
use Rattle.test_base.proofs.turns.take_some_turn.Goals as goal

pub leave_some-requires-clause-turn : goal.leave_some-requires-clause-turn
leave_some-requires-clause-turn g c = let pass = c.enter-count.new.pass in let t : Turn (Unit {0}) = record { number = pass.number; entries = [] } in
    let before = c.enter-count.ensures.state in let sum = c.saturating_add.ensures in let more = length-append pass.seen (t ∷ []) in (t, refl, omega arith, tt)
