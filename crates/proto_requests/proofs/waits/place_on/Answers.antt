use Rattle.std.proofs.Common.{◌≡◌, ◌∙◌, sym, ap, false, rules}
use Rattle.std.specs.List.{list_any}
use Rattle.proto_requests.specs.Waits.{is_kind, is_kind_on}
use Rattle.proto_requests.specs.Spots.{holds, held}
use Rattle.std.specs.Prelude.{is_some}
use Rattle.proto_requests.specs.Numbers.{number_at}
use Rattle.proto_requests.proofs.Positions.{nowhere}
use Rattle.proto_requests.proofs.Spotted.{any_held}
use Rattle.proto_requests.proofs.KnownOperations.{any_kind}
use Rattle.proto_requests.proofs.waits.place_on.Goals as goal

pub returns-in-None : goal.returns-in-None
returns-in-None g c = λ h.
    let W = g.T.Waiter in
    let R = is_kind W.is_send W.is_left c.args.send in
    let P = is_kind_on W.is_send W.is_left W.context_of c.args.send c.args.c in
    let ss = c.args.list.now in
    let is : c.c.inside.0 ≡ c.args.c = search rules in
    let none : list_any P (held ss) ≡ false = sym (any_kind W.context_of R c.args.c (held ss)) ∙ sym ((h c.if-not-known.false).0 c.args.c) ∙ ap is_some (ap (number_at c.args.numbers.now) (sym is) ∙ sym c.in-None.ensures) in
    nowhere (holds P) ss (any_held P ss ∙ none)

pub returns-in-Some : goal.returns-in-Some
returns-in-Some g c = λ h. c.place_at.ensures (h c.if-not-known.false).1
