use Rattle.sp_core.specs.Immediate.{ReceivedNow}
use Rattle.sp_socket.proofs.Alone.{keeps, took_by, stays_open, seat_kept}
use Rattle.sp_socket.proofs.single.Single.try_recv.Goals as goal

pub invariant_of-self : goal.invariant_of-self
invariant_of-self g c =
    let m = c.try_recv in
    let i = c.self.inside in
    keeps i.socket i.passes i.pass m.new.pass _ c.self.invariant m.ensures.pass.same m.ensures.turn

pub returns-clause-open_ : goal.returns-clause-open_
returns-clause-open_ g c =
    let m = c.try_recv in
    let i = c.self.inside in
    stays_open i.socket i.passes i.pass m.new.pass c.args.self.now c.self.view_is c.self.invariant (invariant_of-self g c) m.ensures.pass.open_

pub returns-clause-turn : goal.returns-clause-turn
returns-clause-turn g c =
    let m = c.try_recv in
    let i = c.self.inside in
    took_by i.socket i.passes i.pass m.new.pass (λ n z h t. ReceivedNow m.result z h t n c.args.c) c.args.self.now c.self.view_is c.self.invariant m.ensures.pass.same (seat_kept i.pass m.new.pass m.ensures.pass.seat) m.ensures.turn
