use Rattle.std.proofs.Common.{◌∙◌, ap, refl, map, ◌++◌, ◌∷◌, [], ℕ, None}
use Rattle.std.specs.List.{list_all}
use Rattle.std.proofs.lemmas.List.{map-append}
use Rattle.proto_requests.specs.Ordered.{is_before}
use Rattle.proto_requests.proofs.NumberedEntries.{more_entries}
use Rattle.proto_rep.specs.Places.{PlacesView, place_of}
use Rattle.proto_rep.specs.Reps.{ctx_of}
use Rattle.proto_rep.proofs.places.Places.open.Goals as goal

pub returns-in-Ok-clause-more : goal.returns-in-Ok-clause-more
returns-in-Ok-clause-more c = λ h.
    let n = c.c.inside.0 in
    let es = c.self.inside.stored.entries in
    let low = ap (λ (v : PlacesView). list_all (is_before ctx_of n) v.items) c.self.view_is ∙ ap (λ (m : ℕ). list_all (is_before ctx_of m) c.args.self.now.items) c.c.view_is ∙ h in
    ap (map place_of) (c.in-Ok.ensures.entries ∙ more_entries ctx_of place_of (λ e. refl) n None es low) ∙ map-append place_of es ((n, None) ∷ [])
    ∙ ap (λ (v : PlacesView). v.items ++ record { ctx = n; stored = None } ∷ []) c.self.view_is ∙ ap (λ (m : ℕ). c.args.self.now.items ++ record { ctx = m; stored = None } ∷ []) c.c.view_is
