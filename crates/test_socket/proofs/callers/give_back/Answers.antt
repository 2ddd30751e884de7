use Rattle.std.proofs.Common.{sym, subst, List}
use Rattle.aio_word.specs.Views.{Stands}
use Rattle.sp_socket.specs.Passes.{PassView}
use Rattle.sp_socket.proofs.Waits.{still_of}
use Rattle.test_socket.proofs.SocketCallers.{stands_last}
use Rattle.test_socket.proofs.callers.give_back.Goals as goal

pub returns-clause-closed : goal.returns-clause-closed
returns-clause-closed g c =
    let last = c.close-totals.new.pass in
    (last, subst (Stands last) (sym c.give.ensures.pass) (stands_last last c.args.list.now.items), c.close-totals.ensures.closed, still_of c.args.socket.now c.collect_all.new.caller.pass last c.close-totals.ensures.pass.same c.collect_all.ensures.calls.own)
