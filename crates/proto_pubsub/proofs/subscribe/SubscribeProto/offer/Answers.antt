use Rattle.std.proofs.Common.{refl, ◌∙◌}
use Rattle.proto_pubsub.specs.declared.subscribe.Subscribe.{Subscribe}
use Rattle.proto_pubsub.proofs.Subscribed.{in_order, can_give_at, idle_at, looked_ties, looked_to, looked_all}
use Rattle.proto_pubsub.proofs.subscribe.SubscribeProto.offer.Goals as goal

pub returns-in-None-clause-same : goal.returns-in-None-clause-same
returns-in-None-clause-same c =
    λ t h.
    let was = c.args.self.now in
    let is : Subscribe = record { alloc = was.alloc; raw = was.raw; options = was.options; contexts = was.contexts; waiting = was.waiting; looked = c.len-self.result } in
    looked_ties was is t h refl refl (looked_all was t c.deref.result.now c.len-self.result _ h c.deref.ensures.value refl (c.len-self.ensures ∙ was.waiting.ok.0) (c.in-None.ensures.place (in_order was t c.deref.result.now h c.deref.ensures.value))) (refl, refl)

pub returns-in-None-clause-offered : goal.returns-in-None-clause-offered
returns-in-None-clause-offered c = λ t l q h. idle_at c.args.self.now t c.deref.result.now _ l h c.deref.ensures.value refl (c.in-None.ensures.place (in_order c.args.self.now t c.deref.result.now h c.deref.ensures.value))

pub returns-in-Some-clause-same : goal.returns-in-Some-clause-same
returns-in-Some-clause-same c =
    λ t h.
    let was = c.args.self.now in
    let is : Subscribe = record { alloc = was.alloc; raw = was.raw; options = was.options; contexts = was.contexts; waiting = was.waiting; looked = c.in-Some.i } in
    looked_ties was is t h refl refl (looked_to was t c.deref.result.now c.in-Some.i c.index.result.now _ h c.deref.ensures.value refl (c.in-Some.ensures.place (in_order was t c.deref.result.now h c.deref.ensures.value))) (refl, refl)

pub returns-in-Some-clause-offered : goal.returns-in-Some-clause-offered
returns-in-Some-clause-offered c = λ t l q h. can_give_at c.args.self.now t c.deref.result.now c.in-Some.i c.index.result.now _ l h c.deref.ensures.value refl (c.in-Some.ensures.place (in_order c.args.self.now t c.deref.result.now h c.deref.ensures.value)) c.index.ensures

pub index-requires : goal.index-requires
index-requires c = c.in-Some.ensures.inside c.in-Some.i refl
