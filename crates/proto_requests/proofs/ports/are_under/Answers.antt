use Rattle.std.proofs.Common.{◌≡◌, ◌∙◌, ap, ◌-◌, length, is_lt, nat_cmp, false}
use Rattle.std.specs.Prelude.{nat_lt}
use Rattle.std.specs.Map.{keys_of}
use Rattle.std.proofs.lemmas.List.Elements.{recursion_from_All}
use Rattle.proto_requests.proofs.PortsInOrder.{under_last}
use Rattle.proto_requests.proofs.ports.are_under.Goals as goal

pub returns-in-Some : goal.returns-in-Some
returns-in-Some c =
    let xs = c.args.held.now.entries in
    let last = c.in-Some.last.now in
    ap (nat_lt last) c.p.view_is ∙ under_last c.args.p (length xs - 1) (last, c.in-Some.field-0-1.now) xs c.in-Some.ensures.last (recursion_from_All (λ q. is_lt (nat_cmp last q) ≡ false) (keys_of xs) c.in-Some.ensures.all_up_to)
