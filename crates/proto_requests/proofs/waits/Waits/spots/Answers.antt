use Rattle.std.proofs.Common.{ap, arith, length}
use Rattle.proto_requests.specs.Waits.{WaitsView}
use Rattle.proto_requests.proofs.Spotted.{held_few}
use Rattle.proto_requests.proofs.waits.Waits.spots.Goals as goal

pub returns : goal.returns
returns g c =
    let few = held_few c.self.inside.list.items in
    let len = c.self.inside.list.ok.0 in
    let n = c.len.ensures in
    let same = ap (λ (v : WaitsView _). length v.items) c.self.view_is in
    omega (arith, few, len, n, same)
