use Rattle.std.proofs.Common.{◌≡◌, ◌∙◌, sym, ap, subst, true, List}
use Rattle.std.specs.Prelude.{find}
use Rattle.std.specs.List.{position}
use Rattle.proto_live_requests.specs.Dues.{awaited}
use Rattle.proto_requests.specs.Backlogs.{IsIndexed}
use Rattle.proto_requests.specs.Numbers.{is_known}
use Rattle.proto_live_requests.specs.Lives.{LivesView}
use Rattle.proto_live_requests.specs.LiveRequests.{is_live_on, live_ctx}
use Rattle.proto_requests.specs.Spots.{holds, held}
use Rattle.proto_requests.specs.declared.spots.Spot.{Spot}
use Rattle.proto_live_requests.proofs.lives.Lives.out_of.Goals as goal

pub returns : goal.returns
returns c =
    let e = c.deref-2.ensures.value in
    let index : c.self.inside.is_indexed ≡ true → IsIndexed live_ctx (is_known c.self.inside.by_ctx) (held c.deref-2.result.now) = λ h. subst (λ (xs : List (Spot _)). IsIndexed live_ctx (is_known c.self.inside.by_ctx) (held xs)) (sym e) (c.self.invariant.by_number h).by_ctx in
    c.out_at.ensures (is_live_on c.args.c) (c.ctx_place.ensures index ∙ ap (position (holds (is_live_on c.args.c))) (e ∙ sym c.deref.ensures.value)) ∙ ap (λ (xs : List (Spot _)). awaited (find (is_live_on c.args.c) (held xs))) c.deref.ensures.value ∙ ap (λ (v : LivesView). awaited (find (is_live_on c.args.c) v.items)) c.self.view_is
