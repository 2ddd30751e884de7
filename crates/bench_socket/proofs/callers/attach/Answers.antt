use Rattle.std.proofs.Common.{◌∙◌, ap, sym, [], Some}
use Rattle.sp_socket.proofs.Waits.{still_of}
use Rattle.bench_socket.proofs.Lending.{still_none, own_out, back_again}
use Rattle.bench_socket.proofs.callers.attach.Goals as goal

pub attach-requires-clause-own : goal.attach-requires-clause-own
attach-requires-clause-own g c = own_out c.args.socket.now c.args.list.now c.pop.new.self [] c.in-Some.pass c.in-Some.ensures.last c.in-Some.ensures.same.0 c.in-Some.ensures.same.1 c.requires.lent

pub give-requires : goal.give-requires
give-requires g c =
    let s = c.args.socket.now in
    let own = own_out s c.args.list.now c.pop.new.self [] c.in-Some.pass c.in-Some.ensures.last c.in-Some.ensures.same.0 c.in-Some.ensures.same.1 c.requires.lent in
    record { own = (still_of s c.in-Some.pass c.attach.new.pass c.attach.ensures.pass.same own).0 ∙ ap Some (sym (c.in-Some.ensures.same.1 ∙ c.requires.lent.list.lock)) }

pub returns-in_default : goal.returns-in_default
returns-in_default g c = still_none c.args.socket.now c.args.list.now c.pop.new.self [] c.in_default.ensures.none.0 c.in_default.ensures.none.1 c.in_default.ensures.same.0 c.in_default.ensures.same.1 c.requires.lent

pub returns : goal.returns
returns g c =
    let s = c.args.socket.now in
    let own = own_out s c.args.list.now c.pop.new.self [] c.in-Some.pass c.in-Some.ensures.last c.in-Some.ensures.same.0 c.in-Some.ensures.same.1 c.requires.lent in
    back_again s c.args.list.now c.pop.new.self c.give.new.self [] c.in-Some.pass c.attach.new.pass c.in-Some.ensures.last c.in-Some.ensures.same.0 c.in-Some.ensures.same.1 c.give.ensures.pass c.give.ensures.same.0 c.give.ensures.same.1
    (still_of s c.in-Some.pass c.attach.new.pass c.attach.ensures.pass.same own) c.requires.lent
