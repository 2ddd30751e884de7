use Rattle.sp_socket.proofs.Alone.{keeps, took, stays_open, seat_kept}
use Rattle.sp_socket.proofs.single.Single.serve_busy.Goals as goal

pub invariant_of-self : goal.invariant_of-self
invariant_of-self g c =
    let m = c.serve_busy in
    let i = c.self.inside in
    keeps i.socket i.passes i.pass m.new.pass _ c.self.invariant m.ensures.pass.same m.ensures.turn

pub returns-clause-open_ : goal.returns-clause-open_
returns-clause-open_ g c =
    let m = c.serve_busy in
    let i = c.self.inside in
    stays_open i.socket i.passes i.pass m.new.pass c.args.self.now c.self.view_is c.self.invariant (invariant_of-self g c) m.ensures.pass.open_

pub returns-clause-turn : goal.returns-clause-turn
returns-clause-turn g c =
    let m = c.serve_busy in
    let i = c.self.inside in
    took i.socket i.passes i.pass m.new.pass _ c.args.self.now _ c.self.view_is c.self.invariant m.ensures.pass.same (seat_kept i.pass m.new.pass m.ensures.pass.seat) m.ensures.turn (λ z h t s. s)
