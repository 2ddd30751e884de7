use Rattle.std.proofs.Common.{subst, sym, ap}
use Rattle.sp_core.specs.Collecting.{CollectedBy}
use Rattle.sp_socket.specs.Singles.{SingleView}
use Rattle.sp_socket.proofs.Alone.{keeps, took_by, read_kept, collected_open, others_open, collected_pending, open_for}
use Rattle.sp_socket.proofs.single.Single.collect.Goals as goal

pub collect-requires-clause-op : goal.collect-requires-clause-op
collect-requires-clause-op g c =
    let i = c.self.inside in
    open_for i.socket i.passes i.pass c.args.self.now c.args.op c.self.view_is c.self.invariant c.requires

pub invariant_of-self : goal.invariant_of-self
invariant_of-self g c =
    let m = c.collect in
    let i = c.self.inside in
    keeps i.socket i.passes i.pass m.new.pass _ c.self.invariant m.ensures.same m.ensures.turn

pub returns-clause-open_ : goal.returns-clause-open_
returns-clause-open_ g c =
    let m = c.collect in
    let i = c.self.inside in
    collected_open i.socket i.passes i.pass m.new.pass m.result c.args.op c.args.self.now c.self.view_is c.self.invariant (invariant_of-self g c) m.ensures.open_ c.requires

pub returns-clause-turn : goal.returns-clause-turn
returns-clause-turn g c =
    let m = c.collect in
    let i = c.self.inside in
    took_by i.socket i.passes i.pass m.new.pass (λ n z h t. CollectedBy m.result c.args.op n h t) c.args.self.now c.self.view_is c.self.invariant m.ensures.same (read_kept i.pass m.new.pass m.result c.args.op m.ensures.read) m.ensures.turn

pub returns-clause-pending : goal.returns-clause-pending
returns-clause-pending g c =
    let m = c.collect in
    collected_pending c.self.inside.pass m.new.pass m.result c.args.op m.ensures.turn

pub returns-clause-others : goal.returns-clause-others
returns-clause-others g c =
    let m = c.collect in
    let i = c.self.inside in
    others_open i.socket i.passes i.pass m.new.pass m.result c.args.op c.args.self.now c.self.view_is c.self.invariant (invariant_of-self g c) m.ensures.open_
