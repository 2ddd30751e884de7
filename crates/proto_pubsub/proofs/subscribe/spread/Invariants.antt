use Rattle.std.proofs.Common.{◌≡◌, ◌++◌, map, take, drop}
use Rattle.proto_pubsub.specs.SubContexts.{kept_in}
use Rattle.proto_pubsub.proofs.subscribe.spread.Given as goal

abbrev pub invariant-loop-i : goal.invariant-loop-i
invariant-loop-i l = l.contexts ≡ map (kept_in l.fn.raw l.fn.options l.fn.m) (take l.i l.initial.contexts) ++ drop l.i l.initial.contexts
