use Rattle.std.proofs.Common.{◌∙◌, ap, refl, map, ℕ}
use Rattle.std.specs.Prelude.{filter, not}
use Rattle.proto_rep.specs.Places.{ReplyContext, PlacesView, place_of}
use Rattle.proto_rep.specs.Reps.{is_of_context, ctx_of}
use Rattle.proto_requests.proofs.NumberedEntries.{less_seen}
use Rattle.proto_rep.proofs.places.Places.close.Goals as goal

pub returns : goal.returns
returns c =
    let n = c.c.inside.0 in
    ap (map place_of) c.remove.ensures.entries ∙ less_seen ctx_of place_of (λ e. refl) n c.self.inside.stored.entries c.len-len.ensures.ordered ∙ ap (λ (v : PlacesView). filter (λ (x : ReplyContext). not (is_of_context n x)) v.items) c.self.view_is
    ∙ ap (λ (m : ℕ). filter (λ (x : ReplyContext). not (is_of_context m x)) c.args.self.now.items) c.c.view_is
