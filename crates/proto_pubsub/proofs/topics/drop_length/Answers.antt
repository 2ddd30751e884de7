use Rattle.std.proofs.Common.{rules, ℕ}
use Rattle.std.specs.Prelude.{not, ◌==◌}
use Rattle.std.proofs.lemmas.Fn.{filter_same}
use Rattle.proto_pubsub.proofs.topics.drop_length.Goals as goal

pub returns : goal.returns
returns c = filter_same _ (λ (m : ℕ). not (m == c.args.n)) _ (λ x b f' k. search rules) _ _ c.retain.ensures.filtered
