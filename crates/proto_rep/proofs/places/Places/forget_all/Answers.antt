use Rattle.std.proofs.Common.{◌∙◌, ap, rules, None}
use Rattle.std.specs.Map.{keys_of}
use Rattle.proto_requests.proofs.NumberedEntries.{all_written, keys_with_all}
use Rattle.proto_rep.proofs.PlacesOfContexts.{ctxs_written, forgotten}
use Rattle.proto_rep.proofs.places.Places.forget_all.Goals as goal

pub returns-clause-ctxs : goal.returns-clause-ctxs
returns-clause-ctxs c =
    let es = c.self.inside.stored.entries in
    let new = all_written _ None (λ f k u b w g t. search rules) _ es _ c.retain.ensures.filtered in
    ctxs_written c.args.self.now es _ c.self.view_is (ap keys_of new ∙ keys_with_all None es)

pub returns-clause-stored : goal.returns-clause-stored
returns-clause-stored c = λ d.
    let es = c.self.inside.stored.entries in
    let new = all_written _ None (λ f k u b w g t. search rules) _ es _ c.retain.ensures.filtered in
    rw new (forgotten es d)
