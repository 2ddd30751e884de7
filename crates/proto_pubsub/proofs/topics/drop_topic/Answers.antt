use Rattle.std.proofs.Common.{rules, List, ℕ}
use Rattle.std.specs.Prelude.{not}
use Rattle.std.proofs.lemmas.Fn.{filter_same}
use Rattle.sp_history.specs.Lists.{same_bytes}
use Rattle.proto_pubsub.proofs.topics.drop_topic.Goals as goal

pub returns : goal.returns
returns c = filter_same _ (λ (u : List ℕ). not (same_bytes u c.args.t.now)) _ (λ x b f' k. search rules) _ _ c.retain.ensures.filtered
