use Rattle.std.proofs.Common.{◌≡◌, ◌<◌, length, slice_index_or, true, rules}
use Rattle.proto_live_requests.specs.LiveRequests.{live_ctx, is_live_on}
use Rattle.proto_requests.specs.Spots.{holds}
use Rattle.proto_live_requests.proofs.LiveIndexes.{same_ctx}
use Rattle.proto_requests.proofs.KnownOperations.{at_spot}
use Rattle.proto_live_requests.proofs.lives.place_on.Goals as goal

pub returns-then-stands_on : goal.returns-then-stands_on
returns-then-stands_on c = λ h.
    let ss = c.args.list.now in
    let d = c.index-list-i.result in
    let inside : c.args.i < length ss = search rules in
    let it : holds (is_live_on c.args.c) (slice_index_or ss c.args.i d) ≡ true = search rules in
    at_spot live_ctx ss c.args.i d (is_live_on c.args.c) h inside it (same_ctx c.args.c)
