use Rattle.std.proofs.Common.{◌≡◌, ◌∙◌, ap, rules}
use Rattle.proto_requests.specs.Numbers.{is_known}
use Rattle.std.specs.List.{list_any}
use Rattle.proto_requests.specs.Waits.{WaitsView, isnt, receives_on}
use Rattle.proto_requests.specs.Spots.{holds, held}
use Rattle.proto_requests.proofs.Spotted.{any_held}
use Rattle.proto_requests.proofs.KnownOperations.{any_kind}
use Rattle.proto_requests.proofs.waits.Waits.is_receiving.Goals as goal

pub returns-then-self : goal.returns-then-self
returns-then-self g c =
    let W = g.T.Waiter in
    let is : c.c.inside.0 ≡ c.args.c = search rules in
    c.has.ensures ∙ ap (is_known c.self.inside.receives) is ∙ (c.self.invariant.by_receive c.if-self.true).0 c.args.c ∙ any_kind W.context_of (isnt W.is_send) c.args.c (held c.self.inside.list.items) ∙ ap (λ (v : WaitsView _). list_any (receives_on W.is_send W.context_of c.args.c) v.items) c.self.view_is

pub returns : goal.returns
returns g c =
    let W = g.T.Waiter in
    let P = receives_on W.is_send W.context_of c.args.c in
    c.any_receive.ensures ∙ ap (list_any (holds P)) c.deref.ensures.value ∙ any_held P c.self.inside.list.items ∙ ap (λ (v : WaitsView _). list_any P v.items) c.self.view_is
