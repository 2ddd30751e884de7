use Rattle.std.proofs.Common.{◌∙◌, ap}
use Rattle.std.specs.Prelude.{is_some}
use Rattle.proto_pubsub.specs.SubContexts.{is_of_context}
use Rattle.proto_pubsub.proofs.ContextsByNumber.{some_place}
use Rattle.proto_pubsub.proofs.subscribe.is_open.Goals as goal

pub returns : goal.returns
returns c = λ o. c.is_some.ensures ∙ ap is_some (c.index_of.ensures.place o) ∙ some_place (is_of_context c.args.c) c.args.contexts.now
