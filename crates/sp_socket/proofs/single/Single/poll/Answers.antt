use Rattle.sp_socket.specs.Expiring.{PolledAs}
use Rattle.sp_socket.proofs.Alone.{keeps_still, stays_still, by_one}
use Rattle.sp_socket.proofs.single.Single.poll.Goals as goal

pub invariant_of-self : goal.invariant_of-self
invariant_of-self g c =
    let i = c.self.inside in
    keeps_still i.socket i.passes i.pass c.poll.new.pass c.self.invariant c.poll.ensures.still

pub returns-clause-still : goal.returns-clause-still
returns-clause-still g c =
    stays_still c.self.inside.pass c.poll.new.pass c.args.self.now c.self.view_is c.poll.ensures.still

pub returns-clause-polled : goal.returns-clause-polled
returns-clause-polled g c =
    let m = c.poll in
    let i = c.self.inside in
    by_one i.socket i.passes i.pass m.new.pass c.args.self.now (λ k n a b. PolledAs m.result k n c.args.op a b) c.self.view_is c.self.invariant m.ensures.polled
