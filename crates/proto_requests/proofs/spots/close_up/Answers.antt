use Rattle.std.proofs.Common.{◌∙◌, ap, rules, length}
use Rattle.std.specs.Prelude.{is_some}
use Rattle.std.proofs.lemmas.Fn.{filter_same}
use Rattle.proto_requests.specs.declared.spots.Spot.{Spot}
use Rattle.proto_requests.specs.Spots.{held}
use Rattle.proto_requests.proofs.Spotted.{kept_held, kept_len}
use Rattle.proto_requests.proofs.spots.close_up.Goals as goal

pub returns-clause-held : goal.returns-clause-held
returns-clause-held g c =
    let same = filter_same _ (λ (s : Spot _). is_some s.value) _ (λ x b f' k. search rules) _ _ c.retain.ensures.filtered in
    ap held same ∙ kept_held c.args.list.now.items

pub returns-clause-len : goal.returns-clause-len
returns-clause-len g c =
    let same = filter_same _ (λ (s : Spot _). is_some s.value) _ (λ x b f' k. search rules) _ _ c.retain.ensures.filtered in
    c.retain.new.self.ok.0 ∙ ap length same ∙ kept_len c.args.list.now.items
