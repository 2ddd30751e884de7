use Rattle.std.proofs.Common.{◌∙◌, sym, ap, subst, filter}
use Rattle.std.specs.Prelude.{find}
use Rattle.std.specs.List.{position}
use Rattle.std.specs.Option.{option_map}
use Rattle.proto_requests.specs.Backlogs.{IsIndexed}
use Rattle.proto_requests.specs.Numbers.{is_known}
use Rattle.proto_requests.specs.Waits.{WaitsView, receives_on, isnt}
use Rattle.proto_requests.specs.Spots.{holds, held}
use Rattle.proto_requests.proofs.waits.Waits.receive_on.Goals as goal

pub returns : goal.returns
returns g c =
    let W = g.T.Waiter in
    let P = receives_on W.is_send W.context_of c.args.c in
    let ss = c.self.inside.list.items in
    let e = c.deref-2.ensures.value in
    let f = c.deref.ensures.value in
    let at = c.place_on.ensures (λ h. subst (λ xs. IsIndexed W.context_of (is_known c.self.inside.receives) (filter (isnt W.is_send) (held xs))) (sym e) (c.self.invariant.by_receive h)) ∙ ap (position (holds P)) (e ∙ sym f) in
    c.name_at.ensures P at ∙ ap (λ xs. option_map W.name_of (find P (held xs))) f ∙ ap (λ (v : WaitsView _). option_map W.name_of (find P v.items)) c.self.view_is
