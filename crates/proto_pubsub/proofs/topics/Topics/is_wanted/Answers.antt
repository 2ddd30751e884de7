use Rattle.std.proofs.Common.{◌∙◌, ap, List, ℕ}
use Rattle.std.specs.List.{list_any}
use Rattle.sp_history.specs.Kept.{is_wanted_by}
use Rattle.proto_pubsub.specs.Topics.{is_prefix}
use Rattle.proto_pubsub.proofs.Indexed.{found_by_prefix}
use Rattle.proto_pubsub.proofs.topics.Topics.is_wanted.Goals as goal

pub returns : goal.returns
returns c =
    c.any_prefix.ensures ∙ ap (list_any (is_prefix c.self.inside.set.keys c.args.body.now)) c.deref-2.ensures.value
    ∙ found_by_prefix c.self.inside.set.keys c.self.inside.lengths.items c.self.inside.all.items c.args.body.now c.self.invariant ∙ ap (λ (ts : List (List ℕ)). is_wanted_by ts c.args.body.now) c.self.view_is
