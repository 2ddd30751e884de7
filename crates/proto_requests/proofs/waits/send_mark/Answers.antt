use Rattle.std.proofs.Common.{arith, refl}
use Rattle.proto_requests.proofs.KnownOperations.{mark_found}
use Rattle.proto_requests.proofs.waits.send_mark.Goals as goal

pub returns-then-from-list : goal.returns-then-from-list
returns-then-from-list g c = λ h. record { bound = omega arith; none = refl }

pub returns : goal.returns
returns g c = λ h.
    let W = g.T.Waiter in
    mark_found W.is_send c.send_from.result _ c.reached.result c.args.list.now c.reached.ensures refl (c.send_from.ensures h.none)
