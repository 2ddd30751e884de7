use Rattle.std.proofs.Common.{◌∙◌, sym}
use Rattle.ex_turn_lock.proofs.Callers.{none_yet, one_more}
use Rattle.ex_turn_lock.proofs.core_state.act_times.Goals as goal

pub loop-value-init : goal.loop-value-init
loop-value-init g c = none_yet _ _ _ c.requires

pub loop-value-preserved : goal.loop-value-preserved
loop-value-preserved g c = let a = c.loop-value.invariant in let e = c.act.ensures in let t = e.turn in one_more _ _ _ _ _ _ t.0 t.1 a (e.lock, e.outside) e.same t.2 (t.3, sym a.same.1 ∙ t.4, c.act.result, t.5)
