use Rattle.std.proofs.Common.{refl}
use Rattle.proto_pubsub.specs.declared.subscribe.Subscribe.{Subscribe}
use Rattle.proto_pubsub.proofs.Subscribed.{in_order, shut_ties}
use Rattle.proto_pubsub.proofs.subscribe.SubscribeProto.close_ctx.Goals as goal

pub returns-clause-shut : goal.returns-clause-shut
returns-clause-shut c =
    λ t l h.
    let was = c.args.self.now in
    let is : Subscribe = record { alloc = was.alloc; raw = was.raw; options = was.options; contexts = c.shut.new.contexts; waiting = was.waiting; looked = was.looked } in
    shut_ties was is t c.args.c l h (c.shut.ensures (in_order was t was.contexts.items h refl)) refl refl (refl, refl)
