use Rattle.sp_socket.proofs.Alone.{keeps, took, stays_open}
use Rattle.sp_socket.proofs.ExpiredByTicks.{none_cancelled}
use Rattle.sp_socket.proofs.single.Single.tick.Goals as goal

pub invariant_of-self : goal.invariant_of-self
invariant_of-self g c =
    let m = c.tick in
    let i = c.self.inside in
    keeps i.socket i.passes i.pass m.new.pass _ c.self.invariant m.ensures.same m.ensures.due.1

pub returns-clause-open_ : goal.returns-clause-open_
returns-clause-open_ g c =
    let m = c.tick in
    let i = c.self.inside in
    stays_open i.socket i.passes i.pass m.new.pass c.args.self.now c.self.view_is c.self.invariant (invariant_of-self g c) m.ensures.open_

pub returns-clause-turn : goal.returns-clause-turn
returns-clause-turn g c =
    let m = c.tick in
    let i = c.self.inside in
    took i.socket i.passes i.pass m.new.pass _ c.args.self.now _ c.self.view_is c.self.invariant m.ensures.same (none_cancelled _ _ _ _ _ _ m.ensures.due.2) m.ensures.due.1 (λ z h t s. (m.ensures.due.0, s))
