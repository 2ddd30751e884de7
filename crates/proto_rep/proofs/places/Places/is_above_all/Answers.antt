use Rattle.std.proofs.Common.{◌∙◌, ap, refl}
use Rattle.std.specs.Prelude.{nat_lt}
use Rattle.std.specs.List.{list_all}
use Rattle.proto_requests.specs.Ordered.{is_before}
use Rattle.proto_requests.proofs.NumberedEntries.{one_before}
use Rattle.proto_rep.specs.Places.{PlacesView, place_of}
use Rattle.proto_rep.specs.Reps.{ctx_of}
use Rattle.proto_rep.proofs.places.Places.is_above_all.Goals as goal

pub returns-in-Some : goal.returns-in-Some
returns-in-Some c = λ h.
    let all = ap (λ (v : PlacesView). list_all (is_before ctx_of c.args.c) v.items) c.self.view_is ∙ h in
    ap (nat_lt c.in-Some.last.now) c.c.view_is ∙ one_before ctx_of place_of (λ e. refl) c.args.c _ c.in-Some.last.now _ c.self.inside.stored.entries all c.in-Some.ensures.last
