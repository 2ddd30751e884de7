use Rattle.std.proofs.Common.{◌≡◌, ◌++◌, map, take, drop}
use Rattle.proto_pubsub.specs.SubContexts.{emptied}
use Rattle.proto_pubsub.proofs.subscribe.clear.Given as goal

abbrev pub invariant-loop-context : goal.invariant-loop-context
invariant-loop-context l = l.contexts ≡ map emptied (take l.context-index l.initial.contexts) ++ drop l.context-index l.initial.contexts
