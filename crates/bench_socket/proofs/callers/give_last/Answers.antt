use Rattle.std.proofs.Common.{◌∙◌, ap, sym, Some}
use Rattle.bench_socket.proofs.Lending.{one_back, own_back}
use Rattle.bench_socket.proofs.callers.give_last.Goals as goal

pub give-requires : goal.give-requires
give-requires g c = record { own = (own_back c.args.socket.now c.args.list.now c.args.passes.now.items c.pop.new.self.items c.in-Some.pass c.in-Some.ensures.items c.requires).0 ∙ ap Some (sym c.requires.list.lock) }

pub returns-in-Some-clause-lent : goal.returns-in-Some-clause-lent
returns-in-Some-clause-lent g c =
    one_back c.args.socket.now c.args.list.now c.give.new.self c.args.passes.now.items c.pop.new.self.items c.in-Some.pass c.in-Some.ensures.items c.give.ensures.pass c.give.ensures.same.0 c.give.ensures.same.1 c.requires
