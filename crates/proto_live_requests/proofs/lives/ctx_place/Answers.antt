use Rattle.std.proofs.Common.{◌≡◌, ◌∙◌, sym, ap, false, rules}
use Rattle.std.specs.Prelude.{is_some}
use Rattle.std.specs.List.{list_any}
use Rattle.proto_requests.specs.Numbers.{number_at}
use Rattle.proto_live_requests.specs.LiveRequests.{is_live_on}
use Rattle.proto_requests.specs.Spots.{holds, held}
use Rattle.proto_requests.proofs.Positions.{nowhere}
use Rattle.proto_requests.proofs.Spotted.{any_held}
use Rattle.proto_live_requests.proofs.lives.ctx_place.Goals as goal

pub returns-in-None : goal.returns-in-None
returns-in-None c = λ h.
    let P = is_live_on c.args.c in
    let ss = c.args.list.now in
    let is : c.c.inside.0 ≡ c.args.c = search rules in
    let none : list_any P (held ss) ≡ false = sym ((h c.if-not-known.false).0 c.args.c) ∙ ap is_some (ap (number_at c.args.by_ctx.now) (sym is) ∙ sym c.in-None.ensures) in
    nowhere (holds P) ss (any_held P ss ∙ none)

pub returns-in-Some : goal.returns-in-Some
returns-in-Some c = λ h. c.place_on.ensures (h c.if-not-known.false).1
