use Rattle.std.proofs.Common.{◌∙◌, ap, sym, subst, Some, [], ◌∷◌, ◌++◌, List}
use Rattle.sp_socket.specs.Passes.{PassView}
use Rattle.bench_socket.specs.Lent.{AreLent}
use Rattle.bench_socket.proofs.Lending.{still_none, own_out, one_out, back_again}
use Rattle.bench_socket.proofs.callers.lend_one.Goals as goal

pub returns-in_default : goal.returns-in_default
returns-in_default g c = still_none c.args.socket.now c.args.list.now c.pop.new.self c.args.passes.now.items c.in_default.ensures.none.0 c.in_default.ensures.none.1 c.in_default.ensures.same.0 c.in_default.ensures.same.1 c.requires

pub returns-in-Ok : goal.returns-in-Ok
returns-in-Ok g c = one_out c.args.socket.now c.args.list.now c.pop.new.self c.args.passes.now.items c.push.new.self.items c.in-Some.pass c.in-Some.ensures.last c.in-Some.ensures.same.0 c.in-Some.ensures.same.1 c.in-Ok.ensures.items c.requires

pub give-requires : goal.give-requires
give-requires g c =
    let s = c.args.socket.now in
    let own = own_out s c.args.list.now c.pop.new.self c.args.passes.now.items c.in-Some.pass c.in-Some.ensures.last c.in-Some.ensures.same.0 c.in-Some.ensures.same.1 c.requires in
    record { own = ap (λ (p : PassView). p.lock) c.in-Err.ensures.value_returned ∙ own.0 ∙ ap Some (sym (c.in-Some.ensures.same.1 ∙ c.requires.list.lock)) }

pub returns-in-Err : goal.returns-in-Err
returns-in-Err g c =
    let s = c.args.socket.now in
    let out = c.args.passes.now.items in
    let own = own_out s c.args.list.now c.pop.new.self out c.in-Some.pass c.in-Some.ensures.last c.in-Some.ensures.same.0 c.in-Some.ensures.same.1 c.requires in
    let given = c.give.ensures.pass ∙ ap (λ (p : PassView). c.pop.new.self.items ++ p ∷ []) c.in-Err.ensures.value_returned in
    subst (AreLent s c.give.new.self) (sym c.in-Err.ensures.items)
    (back_again s c.args.list.now c.pop.new.self c.give.new.self out c.in-Some.pass c.in-Some.pass c.in-Some.ensures.last c.in-Some.ensures.same.0 c.in-Some.ensures.same.1 given c.give.ensures.same.0 c.give.ensures.same.1 own c.requires)
