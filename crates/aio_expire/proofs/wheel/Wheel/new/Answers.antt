use Rattle.aio_expire.proofs.Wheels.{rings-made}
use Rattle.aio_expire.proofs.wheel.Wheel.new.Goals as goal

pub returns-clause-empty : goal.returns-clause-empty
returns-clause-empty c =
    (rings-made c.args.slots c.in_ok-next.next.items c.in_ok-prev.prev.items c.in_ok-next.ensures.length c.in_ok-prev.ensures.length c.in_ok-next.ensures.each c.in_ok-prev.ensures.each).1
