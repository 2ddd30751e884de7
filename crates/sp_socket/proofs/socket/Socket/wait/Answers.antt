use Rattle.std.proofs.Common.{refl, sym, ◌∙◌, subst}
use Rattle.sp_core.specs.declared.calls.collect.Collected.TheVariants as collected
use Rattle.sp_core.specs.Collecting.{CollectedBy}
use Rattle.sp_socket.specs.Turns.{TookTurn, ReadsFor}
use Rattle.sp_base.specs.declared.OpName.{OpName}
use Rattle.sp_socket.specs.Open.{IsOpenFor}
use Rattle.sp_socket.proofs.Waits.{still_of, same_twice, no_turn, turn_more, looked_more, turn_last}
use Rattle.sp_socket.proofs.socket.Socket.wait.Goals as goal

pub loop-init : goal.loop-init
loop-init g c = record { waits = no_turn c.args.op c.args.pass.now; op = refl }

pub collect-requires-clause-own : goal.collect-requires-clause-own
collect-requires-clause-own g c = still_of c.args.self.now c.args.pass.now c.loop.pass c.loop.invariant.waits.same c.requires.own

pub collect-requires-clause-op : goal.collect-requires-clause-op
collect-requires-clause-op g c = subst (IsOpenFor c.loop.pass) (sym c.loop.invariant.op) (c.loop.invariant.waits.open_ c.args.op c.requires.op)

pub returns-in-Ended-clause-same : goal.returns-in-Ended-clause-same
returns-in-Ended-clause-same g c = same_twice c.args.pass.now c.loop.pass c.collect.new.pass c.loop.invariant.waits.same c.in-Ended.ensures.same

pub returns-in-Ended-clause-open_ : goal.returns-in-Ended-clause-open_
returns-in-Ended-clause-open_ g c = λ other apart o.
    c.in-Ended.ensures.open_ other (λ same. apart (sym c.loop.invariant.op ∙ same)) (c.loop.invariant.waits.open_ other o)

pub returns-in-Ended-clause-waited : goal.returns-in-Ended-clause-waited
returns-in-Ended-clause-waited g c =
    let e = c.in-Ended.ensures in
    let mid = c.loop.pass in
    let after = c.collect.new.pass in
    let outcome = c.in-Ended.outcome in
    turn_last c.args.op outcome c.args.pass.now mid after c.loop.invariant.waits
    (subst (λ (o : OpName). TookTurn (λ z h t. CollectedBy (collected.Ended outcome) o mid.number h t) mid after) c.loop.invariant.op e.turn)
    (subst (λ (o : OpName). ReadsFor (collected.Ended outcome) o mid after) c.loop.invariant.op e.read)

pub loop-preserved : goal.loop-preserved
loop-preserved g c =
    let e = c.in-NotYet.ensures in
    let mid = c.loop.pass in
    let after = c.collect.new.pass in
    let back = c.in-NotYet.back in
    let is = c.loop.invariant.op in
    record {
      waits = looked_more c.args.op c.args.pass.now after c.await_end.new.pass (turn_more c.args.op back c.args.pass.now mid after c.loop.invariant.waits e.same
          (subst (λ (o : OpName). TookTurn (λ z h t. CollectedBy (collected.NotYet back) o mid.number h t) mid after) is e.turn)
          (subst (λ (o : OpName). ReadsFor (collected.NotYet back) o mid after) is e.read) e.open_) c.await_end.ensures;
      op = e.turn.said.0 ∙ is;
    }
