use Rattle.std.proofs.Common.{◌∙◌, sym, ap}
use Rattle.ex_turn_lock.specs.Totals.{total}
use Rattle.ex_turn_lock.proofs.Callers.{none_yet, one_more}
use Rattle.ex_turn_lock.proofs.counter.add_times.Goals as goal

pub loop-added-init : goal.loop-added-init
loop-added-init g c = none_yet _ _ _ c.requires

pub loop-added-preserved : goal.loop-added-preserved
loop-added-preserved g c = let a = c.loop-added.invariant in let e = c.add.ensures in let t = e.turn in one_more _ _ _ _ _ _ t.0 t.1 a (e.lock, e.outside) e.same t.2 (ap total (sym t.2.seen) ∙ (sym e.count ∙ t.3))
