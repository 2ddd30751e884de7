use Rattle.std.proofs.Common.{◌∙◌, ap}
use Rattle.std.specs.Prelude.{is_some}
use Rattle.std.specs.List.{list_any}
use Rattle.proto_live_requests.specs.Lives.{LivesView}
use Rattle.proto_live_requests.specs.LiveRequests.{is_live_on}
use Rattle.proto_requests.specs.Spots.{holds}
use Rattle.proto_requests.proofs.Spotted.{any_held}
use Rattle.proto_live_requests.proofs.LiveIndexes.{placed}
use Rattle.proto_live_requests.proofs.lives.Lives.has.Goals as goal

pub returns-then-not-self : goal.returns-then-not-self
returns-then-not-self c =
    let P = holds (is_live_on c.args.c) in
    c.is_some.ensures ∙ ap is_some c.search_ctx.ensures ∙ placed P c.deref.result.now ∙ ap (list_any P) c.deref.ensures.value ∙ any_held (is_live_on c.args.c) c.self.inside.list.items ∙ ap (λ (v : LivesView). list_any (is_live_on c.args.c) v.items) c.self.view_is
