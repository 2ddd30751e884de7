use Rattle.std.proofs.Common.{sym, subst}
use Rattle.aio_word.specs.Views.{Each}
use Rattle.test_socket.specs.declared.callers.Caller.{Caller}
use Rattle.test_socket.specs.Calls.{Calls}
use Rattle.test_socket.proofs.plays.Play.works_together.Goals as goal

pub all_work-requires-after_bounds : goal.all_work-requires-after_bounds
all_work-requires-after_bounds g c κs within =
    subst (Each (λ (x : Caller g.row.P.Denot g.row.W.Denot). Calls c.self.inside.socket x.pass x.ops.items)) (sym c.as_mut_slice.ensures.value) c.self.invariant.1
