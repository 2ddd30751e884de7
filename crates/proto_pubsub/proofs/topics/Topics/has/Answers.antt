use Rattle.std.proofs.Common.{◌∙◌, ap, List, ℕ}
use Rattle.sp_history.specs.Legal.{has_topic}
use Rattle.proto_pubsub.proofs.topics.Topics.has.Goals as goal

pub returns : goal.returns
returns c = c.contains.ensures ∙ c.self.invariant.0 c.args.t.now ∙ ap (λ (ts : List (List ℕ)). has_topic ts c.args.t.now) c.self.view_is
