use Rattle.std.proofs.Common.{[], ◌∷◌, ◌-◌}
use Rattle.ex_turn_lock.specs.Totals.{total}
use Rattle.ex_turn_lock.proofs.counter.add.Given as goal

abbrev pub ghosts-leave : goal.ghosts-leave
ghosts-leave g a = record { turn = record { number = a.pass.now.number; entries = record { 0 = a.state.count - total a.pass.now.seen } ∷ [] } }
