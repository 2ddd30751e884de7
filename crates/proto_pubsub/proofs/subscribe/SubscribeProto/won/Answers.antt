use Rattle.std.proofs.Common.{refl, arith, ◌∙◌, ◌≡◌}
use Rattle.std.specs.Vec.{with_items}
use Rattle.proto_pubsub.specs.declared.subscribe.Subscribe.{Subscribe}
use Rattle.proto_pubsub.proofs.SubContexts.{contexts_written, long_with}
use Rattle.proto_pubsub.proofs.Subscribed.{in_order, none_taken, taken, never_floods, never_dropped, never_sent, gives_from, given_from_ties}
use Rattle.proto_pubsub.proofs.subscribe.SubscribeProto.won.Goals as goal

pub returns-in-None-clause-given : goal.returns-in-None-clause-given
returns-in-None-clause-given c = λ t s m o l h k. none_taken c.args.self.now t c.args.op s h k.pending c.in-None.ensures.found

pub returns-in-None-clause-flooded : goal.returns-in-None-clause-flooded
returns-in-None-clause-flooded c = λ t s o l h p f. never_floods c.args.self.now t h f

pub returns-in-None-clause-dropped : goal.returns-in-None-clause-dropped
returns-in-None-clause-dropped c = λ t s o l h k. none_taken c.args.self.now t c.args.op s h k.pending c.in-None.ensures.found

pub returns-in-None-clause-sent : goal.returns-in-None-clause-sent
returns-in-None-clause-sent c = λ t p s b o l h k. none_taken c.args.self.now t c.args.op s h k.pending c.in-None.ensures.found

pub returns-in-Some-clause-given : goal.returns-in-Some-clause-given
returns-in-Some-clause-given c =
    λ t s m o l h k.
    let was = c.args.self.now in
    let olds = c.deref_mut.ensures.value in
    let o = in_order was t c.deref_mut.result.now h olds in
    let written : (with_items was.contexts c.give.new.contexts).items ≡ c.give.new.contexts = contexts_written was.contexts c.give.new.contexts c.deref_mut.result.now olds (long_with _ _ c.give.new.contexts c.deref_mut.result.now (c.give.ensures.rest o)) in
    let is : Subscribe = record { alloc = was.alloc; raw = was.raw; options = was.options; contexts = with_items was.contexts c.give.new.contexts; waiting = c.take.new.waiting; looked = c.take.new.looked } in
    let own = taken was t c.args.op s c.in-Some.w h k.pending c.in-Some.ensures.found in (
      gives_from was is t c.args.op s m l h k c.in-Some.w own c.give.result c.deref_mut.result.now olds (c.give.ensures.given o),
      given_from_ties was is t c.args.op s m l h k c.in-Some.w own c.deref_mut.result.now olds (written ∙ (c.give.ensures.rest o)) c.take.ensures.rest c.take.ensures.looked (refl, refl),
      (omega (arith, c.in-Some.ensures.len), omega (arith, c.in-Some.ensures.len, c.take.ensures.capacity, was.waiting.small.1)),
    )

pub returns-in-Some-clause-flooded : goal.returns-in-Some-clause-flooded
returns-in-Some-clause-flooded c = λ t s o l h p f. never_floods c.args.self.now t h f

pub returns-in-Some-clause-dropped : goal.returns-in-Some-clause-dropped
returns-in-Some-clause-dropped c = λ t s o l h k. never_dropped t c.args.op s c.in-Some.w k (taken c.args.self.now t c.args.op s c.in-Some.w h k.pending c.in-Some.ensures.found)

pub returns-in-Some-clause-sent : goal.returns-in-Some-clause-sent
returns-in-Some-clause-sent c = λ t p s b o l h k. never_sent t c.args.op p s b c.in-Some.w k (taken c.args.self.now t c.args.op s c.in-Some.w h k.pending c.in-Some.ensures.found)
