use Rattle.std.proofs.Common.{sym, subst}
use Rattle.aio_word.specs.Views.{Each}
use Rattle.test_socket.specs.declared.callers.Caller.{Caller}
use Rattle.test_socket.specs.Calls.{Calls}
use Rattle.test_socket.proofs.SocketCallers.{each_more}
use Rattle.test_socket.proofs.plays.Play.takes.Goals as goal

pub invariant_of-self : goal.invariant_of-self
invariant_of-self g c =
    let P = (λ (x : Caller g.row.P.Denot g.row.W.Denot). Calls c.self.inside.socket x.pass x.ops.items) in
    (c.next-caller.ensures.list, subst (Each P) (sym c.keep.ensures) (each_more P c.self.inside.callers.items c.next-caller.result c.self.invariant.1 c.next-caller.ensures.caller))
