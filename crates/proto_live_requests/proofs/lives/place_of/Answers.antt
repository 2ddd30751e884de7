use Rattle.std.proofs.Common.{◌≡◌, ◌<◌, length, slice_index_or, true, false, rules}
use Rattle.std.specs.Prelude.{◌==◌}
use Rattle.proto_live_requests.specs.LiveRequests.{live_id, waits_for}
use Rattle.proto_live_requests.specs.declared.live.Live.{Live}
use Rattle.proto_requests.specs.Spots.{holds}
use Rattle.proto_live_requests.proofs.LiveIndexes.{same_id, waits_nowhere}
use Rattle.proto_requests.proofs.KnownOperations.{at_spot}
use Rattle.proto_live_requests.proofs.lives.place_of.Goals as goal

pub returns-then-waits_at : goal.returns-then-waits_at
returns-then-waits_at c = λ h.
    let ss = c.args.list.now in
    let d = c.index-list-i.result in
    let inside : c.args.i < length ss = search rules in
    let it : holds (waits_for c.args.id) (slice_index_or ss c.args.i d) ≡ true = search rules in
    at_spot live_id ss c.args.i d (waits_for c.args.id) h inside it (same_id c.args.id)

pub returns-then-has_id : goal.returns-then-has_id
returns-then-has_id c = λ h.
    let ss = c.args.list.now in
    let d = c.index-list-i.result in
    let inside : c.args.i < length ss = search rules in
    let its : holds (λ (v : Live). v.id == c.args.id) (slice_index_or ss c.args.i d) ≡ true = search rules in
    let no : holds (waits_for c.args.id) (slice_index_or ss c.args.i d) ≡ false = search rules in
    waits_nowhere c.args.id ss c.args.i d h inside its no
