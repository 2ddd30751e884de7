use Rattle.std.proofs.Common.{◌∙◌, ap}
use Rattle.std.specs.List.{list_any}
use Rattle.proto_requests.proofs.Spotted.{any_held}
use Rattle.proto_live_requests.specs.Dues.{waits_so}
use Rattle.proto_live_requests.proofs.DueRequests.{awaited_so}
use Rattle.proto_live_requests.proofs.dues.note_live.Goals as goal

pub returns : goal.returns
returns c = λ x o z.
    c.note_spots.ensures x o (any_held (waits_so x o) c.spots.result.now ∙ ap (list_any (waits_so x o)) c.spots.ensures ∙ awaited_so x o c.args.live.now.items z)
