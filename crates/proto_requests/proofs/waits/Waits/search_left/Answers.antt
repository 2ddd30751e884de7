use Rattle.std.proofs.Common.{◌≡◌, ◌∙◌, ap, sym, false}
use Rattle.std.specs.Prelude.{find}
use Rattle.std.specs.List.{position, list_any}
use Rattle.std.specs.Option.{option_map}
use Rattle.proto_requests.specs.Spots.{holds, held}
use Rattle.proto_requests.specs.Waits.{WaitsView}
use Rattle.proto_requests.proofs.EndedOperations.{none_over, none_found, is_over_found}
use Rattle.proto_requests.proofs.waits.Waits.search_left.Goals as goal

pub invariant_of-self : goal.invariant_of-self
invariant_of-self g c =
    let W = g.T.Waiter in
    let xs = held c.self.inside.list.items in
    let found = c.in-None.ensures W.is_left (c.over_in.ensures ∙ ap (position (holds W.is_left)) (c.deref-2.ensures.value ∙ sym c.deref.ensures.value)) ∙ ap (λ ss. option_map W.name_of (find W.is_left (held ss))) c.deref.ensures.value in
    let none : list_any W.is_left xs ≡ false = none_found W.name_of W.is_left xs found in
    record {
      by_slot = c.self.invariant.by_slot;
      by_receive = c.self.invariant.by_receive;
      by_send = c.self.invariant.by_send;
      send = c.self.invariant.send;
      receive = c.self.invariant.receive;
      left = none_over W.name_of W.is_left c.clear.new.self xs none;
    }

pub returns-in-None-clause-none : goal.returns-in-None-clause-none
returns-in-None-clause-none g c =
    let W = g.T.Waiter in
    let found = c.in-None.ensures W.is_left (c.over_in.ensures ∙ ap (position (holds W.is_left)) (c.deref-2.ensures.value ∙ sym c.deref.ensures.value)) ∙ ap (λ ss. option_map W.name_of (find W.is_left (held ss))) c.deref.ensures.value in
    ap (λ (v : WaitsView _). list_any W.is_left v.items) (sym c.self.view_is) ∙ none_found W.name_of W.is_left (held c.self.inside.list.items) found

pub returns-in-Some-clause-over : goal.returns-in-Some-clause-over
returns-in-Some-clause-over g c =
    let W = g.T.Waiter in
    let found = c.in-Some.ensures W.is_left (c.over_in.ensures ∙ ap (position (holds W.is_left)) (c.deref-2.ensures.value ∙ sym c.deref.ensures.value)) ∙ ap (λ ss. option_map W.name_of (find W.is_left (held ss))) c.deref.ensures.value in
    is_over_found W.name_of W.is_left c.in-Some.op c.args.self.now.items (found ∙ ap (λ (v : WaitsView _). option_map W.name_of (find W.is_left v.items)) c.self.view_is)
