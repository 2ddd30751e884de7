use Rattle.ex_turn_lock.specs.Acts.{Acted}
use Rattle.ex_turn_lock.specs.Totals.{Adds}
use Rattle.ex_turn_lock.proofs.counter.add_times.Given as goal

abbrev pub invariant-loop-added : goal.invariant-loop-added
invariant-loop-added g l = Acted (λ _. Adds 1) l.lock l.initial.pass l.added l.pass
