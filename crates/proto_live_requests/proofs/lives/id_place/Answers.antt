use Rattle.std.proofs.Common.{◌≡◌, ◌∙◌, sym, ap, false}
use Rattle.std.specs.Prelude.{◌==◌, is_some}
use Rattle.std.specs.List.{list_any}
use Rattle.proto_live_requests.specs.LiveRequests.{waits_for}
use Rattle.proto_requests.specs.Spots.{holds, held}
use Rattle.proto_live_requests.specs.declared.live.Live.{Live}
use Rattle.proto_requests.proofs.Positions.{nowhere}
use Rattle.proto_live_requests.proofs.LiveIndexes.{none_waits}
use Rattle.proto_requests.proofs.Spotted.{any_held}
use Rattle.proto_live_requests.proofs.lives.id_place.Goals as goal

pub returns-in-None : goal.returns-in-None
returns-in-None c = λ h.
    let P = waits_for c.args.id in
    let ss = c.args.list.now in
    let none : list_any (λ (x : Live). x.id == c.args.id) (held ss) ≡ false = sym ((h c.if-not-known.false).0 c.args.id) ∙ ap is_some (sym c.in-None.ensures) in
    nowhere (holds P) ss (any_held P ss ∙ none_waits c.args.id (held ss) none)

pub returns-in-Some : goal.returns-in-Some
returns-in-Some c = λ h. c.place_of.ensures (h c.if-not-known.false).1
