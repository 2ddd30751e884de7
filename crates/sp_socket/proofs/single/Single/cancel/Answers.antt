use Rattle.aio_word.specs.declared.phase.Phase.TheVariants as phase
use Rattle.sp_socket.specs.Expiring.{RacedAs}
use Rattle.sp_socket.proofs.Alone.{keeps_still, stays_still, by_one}
use Rattle.sp_socket.proofs.single.Single.cancel.Goals as goal

pub invariant_of-self : goal.invariant_of-self
invariant_of-self g c =
    let i = c.self.inside in
    keeps_still i.socket i.passes i.pass c.cancel.new.pass c.self.invariant c.cancel.ensures.still

pub returns-clause-still : goal.returns-clause-still
returns-clause-still g c =
    stays_still c.self.inside.pass c.cancel.new.pass c.args.self.now c.self.view_is c.cancel.ensures.still

pub returns-clause-raced : goal.returns-clause-raced
returns-clause-raced g c =
    let m = c.cancel in
    let i = c.self.inside in
    by_one i.socket i.passes i.pass m.new.pass c.args.self.now (λ k n a b. RacedAs phase.Cancelled m.result k n c.args.op a b) c.self.view_is c.self.invariant m.ensures.raced
