use Rattle.std.proofs.Common.{◌≡◌, false, take}
use Rattle.std.specs.List.{list_any}
use Rattle.proto_pubsub.specs.SubContexts.{InOrder}
use Rattle.proto_pubsub.specs.Subs.{NoneBefore, is_ready}
use Rattle.proto_pubsub.proofs.subscribe.ready_place.Given as goal

abbrev pub invariant-loop-i : goal.invariant-loop-i
invariant-loop-i l = InOrder l.fn.contexts → NoneBefore (is_ready l.fn.contexts) l.fn.looked l.fn.waiting.items → list_any (is_ready l.fn.contexts) (take l.i l.fn.waiting.items) ≡ false
