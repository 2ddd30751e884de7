use Rattle.std.proofs.Common.{rules, subst, ℕ, ◌<◌}
use Rattle.test_socket.specs.declared.callers.Caller.{Caller}
use Rattle.test_socket.specs.Calls.{Calls}
use Rattle.test_socket.proofs.ByPlace.{by_places}
use denote.Exit.{yes}
use denote.Param.{param}
use denote.Param.Send.{param_send, arg_send, IsSend, sendable}
use denote.RattleType.{RattleType}
use Rattle.std.proofs.Crossing.{crosses}
use Rattle.test_socket.specs.contracts.callers.Caller.{the_row}
use Rattle.test_socket.proofs.PassesBetweenThreads.{pass_send}
use Rattle.test_socket.proofs.plays.all_work.Goals as goal

caller_send : (P W : RattleType) (p : _) (w : _) → IsSend P → IsSend W → IsSend (the_row P W p w)
caller_send P W p w sp sw = search (sendable, crosses, pass_send) depth 60 fits 20000

pub for_each_mut-requires-send-T : goal.for_each_mut-requires-send-T
for_each_mut-requires-send-T g c κs within = param_send _ _ (arg_send _ yes _ (caller_send (param 0 g.row.P) (param 1 g.row.W) g.P.Proto g.W.Wire c.type_bounds.send-P c.type_bounds.send-W))

pub returns : goal.returns
returns g c =
    let s = c.args.socket.now in
    let P = (λ (x : Caller g.row.P.Denot g.row.W.Denot). Calls s x.pass x.ops.items) in
    by_places P c.for_each_mut.new.s (λ i d lt. let k = (c.for_each_mut.ensures i d (subst (λ (n : ℕ). i < n) (search rules) lt)).1 in subst P k.left k.call)
