use Rattle.std.proofs.Common.{rules, refl, ◌≡◌, ◌++◌, ◌∷◌, []}
use Rattle.proto_pubsub.specs.declared.subscribe.Subscribe.{Subscribe}
use Rattle.proto_pubsub.specs.SubContexts.{fresh_context}
use Rattle.proto_pubsub.proofs.Subscribed.{opened_ties}
use Rattle.proto_pubsub.proofs.subscribe.SubscribeProto.open_ctx.Goals as goal

pub returns-clause-opened : goal.returns-clause-opened
returns-clause-opened c =
    λ t l h.
    let was = c.args.self.now in
    let is : Subscribe = record { alloc = was.alloc; raw = was.raw; options = was.options; contexts = c.push.new.self; waiting = was.waiting; looked = was.looked } in
    let items : c.push.new.self.items ≡ was.contexts.items ++ fresh_context was.options.queue c.args.c ∷ [] = search rules in
    opened_ties was is t c.args.c l h items refl refl (refl, refl)
