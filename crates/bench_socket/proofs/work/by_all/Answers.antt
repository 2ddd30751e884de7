use Rattle.std.proofs.Common.{rules, subst, ℕ, ◌<◌}
use denote.Exit.{yes}
use denote.Param.{param}
use denote.Param.Send.{param_send, arg_send}
use Rattle.sp_socket.specs.Passes.{IsOf}
use Rattle.test_socket.proofs.PassesBetweenThreads.{pass_send}
use Rattle.test_socket.proofs.ByPlace.{by_places}
use Rattle.bench_socket.proofs.work.by_all.Goals as goal

pub for_each_mut-requires-send-T : goal.for_each_mut-requires-send-T
for_each_mut-requires-send-T g c κs within = param_send _ _ (arg_send _ yes _ (pass_send (param 0 g.row.P) (param 1 g.row.W) g.P.Proto g.W.Wire c.type_bounds.send-P c.type_bounds.send-W))

pub returns-clause-own : goal.returns-clause-own
returns-clause-own g c =
    let s = c.args.socket.now in
    by_places (IsOf s) c.for_each_mut.new.s (λ i d lt. let k = (c.for_each_mut.ensures i d (subst (λ (n : ℕ). i < n) (search rules) lt)).1 in subst (IsOf s) k.left k.call)
