use Rattle.std.proofs.Common.{◌≡◌, ◌∙◌, sym, ap, drop, Some, None}
use Rattle.std.specs.List.{position}
use Rattle.proto_requests.specs.Waits.{isnt}
use Rattle.proto_requests.specs.Spots.{holds}
use Rattle.proto_requests.proofs.FirstPlaces.{nowhere_past, place_past}
use Rattle.proto_requests.proofs.waits.receive_from.Goals as goal

pub returns-in-None : goal.returns-in-None
returns-in-None g c = λ k.
    let P = holds (isnt g.T.Waiter.is_send) in
    let xs = c.args.list.now in
    let none : position P (drop c.args.from xs) ≡ None = ap (position P) (sym c.rest.ensures) ∙ sym c.in-None.ensures in
    nowhere_past P c.args.from xs c.requires k none

pub returns-in-Some : goal.returns-in-Some
returns-in-Some g c = λ k.
    let P = holds (isnt g.T.Waiter.is_send) in
    let xs = c.args.list.now in
    let at : position P (drop c.args.from xs) ≡ Some c.in-Some.i = ap (position P) (sym c.rest.ensures) ∙ sym c.in-Some.ensures in
    place_past P c.args.from c.in-Some.i xs c.requires k at
