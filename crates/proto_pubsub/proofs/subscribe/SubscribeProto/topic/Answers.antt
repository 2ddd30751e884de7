use Rattle.std.proofs.Common.{refl, ◌≡◌}
use Rattle.std.specs.Vec.{with_items}
use Rattle.proto_pubsub.specs.declared.subscribe.Subscribe.{Subscribe}
use Rattle.proto_pubsub.proofs.SubContexts.{contexts_written}
use Rattle.proto_pubsub.proofs.Subscribed.{in_order, switched_ties, long_switched}
use Rattle.proto_pubsub.proofs.subscribe.SubscribeProto.topic.Goals as goal

pub returns-clause-topic : goal.returns-clause-topic
returns-clause-topic c =
    λ t l h on open_.
    let was = c.args.self.now in
    let olds = c.deref_mut.ensures.value in
    let s = c.switch.ensures.switched (in_order was t c.deref_mut.result.now h olds) in
    let written : (with_items was.contexts c.switch.new.contexts).items ≡ c.switch.new.contexts = contexts_written was.contexts c.switch.new.contexts c.deref_mut.result.now olds (long_switched c.switch.result _ c.args.c c.deref_mut.result.now c.switch.new.contexts c.args.t.now c.args.on s) in
    let is : Subscribe = record { alloc = was.alloc; raw = was.raw; options = was.options; contexts = with_items was.contexts c.switch.new.contexts; waiting = was.waiting; looked = was.looked } in
    switched_ties was is t c.args.c c.args.t.now l h open_ refl refl (refl, refl) c.switch.result c.deref_mut.result.now c.args.on olds (rw written s)

pub returns-clause-off : goal.returns-clause-off
returns-clause-off c = λ e. c.switch.ensures.off e
