use Rattle.std.proofs.Common.{◌∙◌, ap}
use Rattle.std.specs.List.{list_any}
use Rattle.proto_requests.proofs.Spotted.{any_held}
use Rattle.proto_live_requests.specs.LiveRequests.{is_live_on}
use Rattle.proto_live_requests.proofs.dues.look_at_live.Goals as goal

pub returns : goal.returns
returns c = λ q l. c.look_at_spots.ensures q (any_held (is_live_on q) c.spots.result.now ∙ ap (list_any (is_live_on q)) c.spots.ensures ∙ l)
