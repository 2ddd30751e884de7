use Rattle.std.proofs.Common.{◌∙◌, ap}
use Rattle.std.specs.Prelude.{◌==◌}
use Rattle.std.specs.List.{list_any}
use Rattle.proto_live_requests.specs.Lives.{LivesView}
use Rattle.proto_requests.specs.Spots.{holds}
use Rattle.proto_live_requests.specs.declared.live.Live.{Live}
use Rattle.proto_requests.proofs.Spotted.{any_held}
use Rattle.proto_live_requests.proofs.lives.Lives.is_taken.Goals as goal

pub returns-then-not-self : goal.returns-then-not-self
returns-then-not-self c = c.any_id.ensures ∙ ap (list_any (holds (λ (x : Live). x.id == c.args.id))) c.deref.ensures.value ∙ any_held (λ (x : Live). x.id == c.args.id) c.self.inside.list.items ∙ ap (λ (v : LivesView). list_any (λ (x : Live). x.id == c.args.id) v.items) c.self.view_is
