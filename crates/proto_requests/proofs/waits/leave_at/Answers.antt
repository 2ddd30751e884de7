use Rattle.std.proofs.Common.{◌∙◌, ap, sym, slice_set, arith}
use Rattle.proto_requests.specs.Waits.{left_spot}
use Rattle.proto_requests.specs.Spots.{holds}
use Rattle.proto_requests.proofs.Positions.{not_found, with_none, with_at}
use Rattle.proto_requests.proofs.Spotted.{inside}
use Rattle.proto_requests.proofs.waits.leave_at.Goals as goal

pub returns-in-None : goal.returns-in-None
returns-in-None g c = λ P h.
    let W = g.T.Waiter in
    with_none (holds P) (left_spot W.context_of W.left c.args.c) c.args.list.now (not_found (holds P) c.args.list.now (sym h ∙ c.in-None.is))

pub returns-then-i-list : goal.returns-then-i-list
returns-then-i-list g c = λ P h.
    let W = g.T.Waiter in
    ap (slice_set c.args.list.now c.in-Some.i) c.leave_spot.ensures ∙ with_at (holds P) (left_spot W.context_of W.left c.args.c) c.args.list.now c.in-Some.i c.index-list-i.result (sym h ∙ c.in-Some.is)

pub returns-else-i-list : goal.returns-else-i-list
returns-else-i-list g c = λ P h.
    let l = inside P c.args.list.now c.in-Some.i (sym h ∙ c.in-Some.is) in
    absurd (omega (arith, l))
