use Rattle.std.proofs.Common.{rules, ◌≡◌, sym, subst, [], ◌∷◌}
use Rattle.test_socket.specs.Calls.{Calls}
use Rattle.test_socket.proofs.SocketCallers.{list_less, no_ops}
use Rattle.test_socket.proofs.callers.next.Goals as goal

pub returns-clause-list : goal.returns-clause-list
returns-clause-list g c = (list_less c.args.socket.now c.args.list.now c.pop.new.self c.in-Some.pass c.in-Some.ensures.last c.in-Some.ensures.same.0 c.in-Some.ensures.same.1 c.requires).0

pub returns-clause-caller : goal.returns-clause-caller
returns-clause-caller g c =
    let own = (list_less c.args.socket.now c.args.list.now c.pop.new.self c.in-Some.pass c.in-Some.ensures.last c.in-Some.ensures.same.0 c.in-Some.ensures.same.1 c.requires).1 in
    let none : c.new.result.items ≡ [] = search rules in
    subst (Calls c.args.socket.now c.in-Some.pass) (sym none) (no_ops c.args.socket.now c.in-Some.pass own)
