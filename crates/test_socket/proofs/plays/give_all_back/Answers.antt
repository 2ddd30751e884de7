use Rattle.std.proofs.Common.{subst}
use Rattle.aio_word.specs.Views.{Each}
use Rattle.test_socket.specs.declared.callers.Caller.{Caller}
use Rattle.test_socket.specs.Calls.{Calls}
use Rattle.test_socket.proofs.SocketCallers.{each_prefix}
use Rattle.test_socket.proofs.plays.give_all_back.Goals as goal

pub gives_back-are_right-requires-clause-caller : goal.gives_back-are_right-requires-clause-caller
gives_back-are_right-requires-clause-caller g c =
    let P = (λ (x : Caller g.row.P.Denot g.row.W.Denot). Calls c.args.socket.now x.pass x.ops.items) in
    (each_prefix P c.pop.new.self.items c.in-Some-pop.caller (subst (Each P) c.in-Some-pop.ensures.items c.loop.invariant.callers)).1

pub loop-preserved : goal.loop-preserved
loop-preserved g c =
    let P = (λ (x : Caller g.row.P.Denot g.row.W.Denot). Calls c.args.socket.now x.pass x.ops.items) in
    record { list = c.gives_back-are_right.ensures; callers = (each_prefix P c.pop.new.self.items c.in-Some-pop.caller (subst (Each P) c.in-Some-pop.ensures.items c.loop.invariant.callers)).0 }
