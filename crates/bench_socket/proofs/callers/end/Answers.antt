use Rattle.std.proofs.Common.{sym, subst, []}
use Rattle.aio_word.specs.Views.{Stands}
use Rattle.sp_socket.proofs.Waits.{still_of}
use Rattle.test_socket.proofs.SocketCallers.{stands_last}
use Rattle.bench_socket.proofs.Lending.{own_out}
use Rattle.bench_socket.proofs.callers.end.Goals as goal

pub close-requires : goal.close-requires
close-requires g c = record { own = own_out c.args.socket c.args.list c.pop.new.self [] c.in-Some.pass c.in-Some.ensures.last c.in-Some.ensures.same.0 c.in-Some.ensures.same.1 c.requires.lent }

pub finish-wires-requires-clause-closed : goal.finish-wires-requires-clause-closed
finish-wires-requires-clause-closed g c =
    let s = c.args.socket in
    let last = c.close.new.pass in
    let own = own_out s c.args.list c.pop.new.self [] c.in-Some.pass c.in-Some.ensures.last c.in-Some.ensures.same.0 c.in-Some.ensures.same.1 c.requires.lent in
    (last, subst (Stands last) (sym c.give.ensures.pass) (stands_last last c.pop.new.self.items), c.close.ensures.closed, still_of s c.in-Some.pass last c.close.ensures.pass.same own)
