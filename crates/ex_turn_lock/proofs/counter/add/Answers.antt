use Rattle.std.proofs.Common.{sym, ap, ◌∙◌, arith}
use Rattle.ex_turn_lock.specs.Totals.{total}
use Rattle.ex_turn_lock.proofs.Sums.{one_more}
use Rattle.ex_turn_lock.proofs.counter.add.Goals as goal

pub leave-requires-clause-state : goal.leave-requires-clause-state
leave-requires-clause-state g c = let same = c.enter-counter.ensures.state in let sum = c.saturating_add.ensures in let fits = c.enter-counter.type_inv in one_more _ _ _ (omega arith)

pub returns-clause-count : goal.returns-clause-count
returns-clause-count g c = let same = c.enter-counter.ensures.state in let sum = c.saturating_add.ensures in one_more _ _ _ (omega arith) ∙ sym (ap total c.leave.ensures.turn.0)
