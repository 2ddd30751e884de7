use Rattle.std.proofs.Common.{◌∙◌, ap, refl, ℕ}
use Rattle.std.specs.List.{list_any}
use Rattle.proto_rep.specs.Places.{PlacesView, place_of}
use Rattle.proto_rep.specs.Reps.{is_of_context, ctx_of}
use Rattle.proto_requests.proofs.NumberedEntries.{found_any}
use Rattle.proto_rep.proofs.places.Places.has.Goals as goal

pub returns : goal.returns
returns c =
    let n = c.c.inside.0 in
    c.contains_key.ensures ∙ found_any ctx_of place_of (λ e. refl) n c.self.inside.stored.entries ∙ ap (λ (v : PlacesView). list_any (is_of_context n) v.items) c.self.view_is ∙ ap (λ (m : ℕ). list_any (is_of_context m) c.args.self.now.items) c.c.view_is
