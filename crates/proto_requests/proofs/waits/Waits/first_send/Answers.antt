use Rattle.std.proofs.Common.{◌∙◌, sym, ap, take}
use Rattle.std.specs.Prelude.{find}
use Rattle.std.specs.List.{list_any, position}
use Rattle.std.specs.Option.{option_map}
use Rattle.proto_requests.specs.Waits.{WaitsView}
use Rattle.proto_requests.specs.Spots.{holds, held}
use Rattle.proto_requests.proofs.waits.Waits.first_send.Goals as goal

pub returns : goal.returns
returns g c =
    let W = g.T.Waiter in
    let P = W.is_send in
    let ss = c.self.inside.list.items in
    let e = c.deref-2.ensures.value in
    let f = c.deref.ensures.value in
    let at = c.send_from.ensures (ap (λ xs. list_any (holds P) (take c.self.inside.send_from xs)) e ∙ c.self.invariant.send.none) ∙ ap (position (holds P)) (e ∙ sym f) in
    c.name_at.ensures P at ∙ ap (λ xs. option_map W.name_of (find P (held xs))) f ∙ ap (λ (v : WaitsView _). option_map W.name_of (find P v.items)) c.self.view_is
