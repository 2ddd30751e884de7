use Rattle.std.proofs.Common.{◌≡◌, ◌<◌, length, slice_index_or, true, rules}
use Rattle.proto_requests.specs.Waits.{is_named, slot_of}
use Rattle.proto_requests.specs.Spots.{holds}
use Rattle.proto_requests.proofs.KnownOperations.{at_spot, same_slot}
use Rattle.proto_requests.proofs.waits.place_of.Goals as goal

pub returns-then-names : goal.returns-then-names
returns-then-names g c = λ h.
    let name = g.T.Waiter.name_of in
    let ss = c.args.list.now in
    let d = c.index-list-i.result in
    let inside : c.args.i < length ss = search rules in
    let it : holds (is_named name c.args.op) (slice_index_or ss c.args.i d) ≡ true = search rules in
    at_spot (slot_of name) ss c.args.i d (is_named name c.args.op) h inside it (same_slot name c.args.op)
