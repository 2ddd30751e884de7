use Rattle.std.proofs.Common.{refl, ap, ◌∙◌, ◌≡◌, map}
use Rattle.std.specs.Vec.{with_items}
use Rattle.proto_pubsub.specs.declared.subscribe.Subscribe.{Subscribe}
use Rattle.proto_pubsub.specs.SubContexts.{emptied}
use Rattle.proto_pubsub.proofs.SubContexts.{contexts_written, long_map}
use Rattle.proto_pubsub.proofs.Subscribed.{closed_ties}
use Rattle.proto_pubsub.proofs.subscribe.SubscribeProto.close.Goals as goal

pub returns-clause-closed : goal.returns-clause-closed
returns-clause-closed c =
    λ t totals l h.
    let was = c.args.self.now in
    let olds = c.deref_mut.ensures.value in
    let contexts : (with_items was.contexts c.clear.new.contexts).items ≡ map emptied was.contexts.items =
    contexts_written was.contexts c.clear.new.contexts c.deref_mut.result.now olds (long_map emptied c.clear.new.contexts c.deref_mut.result.now c.clear.ensures) ∙ c.clear.ensures ∙ ap (map emptied) olds in
    let is : Subscribe = record { alloc = was.alloc; raw = was.raw; options = was.options; contexts = with_items was.contexts c.clear.new.contexts; waiting = was.waiting; looked = was.looked } in
    closed_ties was is t totals h contexts refl refl (refl, refl)
