use Rattle.ex_turn_lock.specs.Acts.{RepliesTo, Acted}
use Rattle.ex_turn_lock.proofs.core_state.act_times.Given as goal

abbrev pub invariant-loop-value : goal.invariant-loop-value
invariant-loop-value g l = Acted (RepliesTo g.M.Machine.replies l.initial.pass.label) l.lock l.initial.pass l.value l.pass
