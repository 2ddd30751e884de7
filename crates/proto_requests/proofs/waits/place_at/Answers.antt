use Rattle.std.proofs.Common.{◌≡◌, ◌<◌, length, slice_index_or, true, rules}
use Rattle.proto_requests.specs.Waits.{is_kind, is_kind_on}
use Rattle.proto_requests.specs.Spots.{holds}
use Rattle.proto_requests.proofs.KnownOperations.{kind_spot, kind_is, same_context}
use Rattle.proto_requests.proofs.waits.place_at.Goals as goal

pub returns-then-stands_on : goal.returns-then-stands_on
returns-then-stands_on g c = λ h.
    let W = g.T.Waiter in
    let ss = c.args.list.now in
    let d = c.index-list-i.result in
    let R = is_kind W.is_send W.is_left c.args.send in
    let P = is_kind_on W.is_send W.is_left W.context_of c.args.send c.args.c in
    let inside : c.args.i < length ss = search rules in
    let it : holds P (slice_index_or ss c.args.i d) ≡ true = search rules in
    kind_spot W.context_of R ss c.args.i d P h inside it (kind_is W.context_of R c.args.c) (same_context W.context_of R c.args.c)
