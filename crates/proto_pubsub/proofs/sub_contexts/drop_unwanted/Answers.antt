use Rattle.std.proofs.Common.{rules}
use Rattle.std.proofs.lemmas.Fn.{filter_same}
use Rattle.sp_msg.specs.Views.{MessageView}
use Rattle.sp_history.specs.Kept.{is_wanted_by}
use Rattle.proto_pubsub.proofs.sub_contexts.drop_unwanted.Goals as goal

pub returns-clause-items : goal.returns-clause-items
returns-clause-items c = filter_same _ (λ (m : MessageView). is_wanted_by c.args.topics.now m.body) _ (λ x b f' k. search rules) _ _ c.retain.ensures.filtered
