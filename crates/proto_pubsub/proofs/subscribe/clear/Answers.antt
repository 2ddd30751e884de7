use Rattle.proto_pubsub.specs.SubContexts.{emptied}
use Rattle.proto_pubsub.proofs.SubContexts.{written}
use Rattle.proto_pubsub.proofs.subscribe.clear.Goals as goal

pub loop-context-preserved : goal.loop-context-preserved
loop-context-preserved c = written emptied c.args.contexts.now c.loop-context.contexts c.loop-context.context-index c.context-item.result _ c.loop-context-test.true c.loop-context.invariant c.clear.ensures
