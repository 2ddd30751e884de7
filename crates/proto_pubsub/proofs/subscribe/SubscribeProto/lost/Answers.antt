use Rattle.std.proofs.Common.{refl, arith, ap, ◌∙◌, ◌≡◌, length}
use Rattle.std.specs.Prelude.{option_to_list, Option}
use Rattle.sp_history.specs.declared.entry.Entry.TheVariants.{End}
use Rattle.sp_history.specs.declared.entry.Ending.TheVariants.{Gone}
use Rattle.proto_pubsub.specs.declared.subscribe.Subscribe.{Subscribe}
use Rattle.proto_pubsub.specs.declared.subscribe.WaitingReceive.{WaitingReceive}
use Rattle.proto_pubsub.proofs.Knowing.{allowed_before}
use Rattle.proto_pubsub.proofs.Subscribed.{the_op, lost_ties, no_message}
use Rattle.proto_pubsub.proofs.subscribe.SubscribeProto.lost.Goals as goal

pub returns-clause-lost : goal.returns-clause-lost
returns-clause-lost c =
    λ t s cause by l h p.
    let was = c.args.self.now in
    let w = the_op was t c.args.op s h p in
    let one : length (option_to_list c.take.result) ≡ 1 = ap (λ (o : Option WaitingReceive). length (option_to_list o)) (c.take.ensures.found ∙ w.1) in
    let is : Subscribe = record { alloc = was.alloc; raw = was.raw; options = was.options; contexts = was.contexts; waiting = c.take.new.waiting; looked = c.take.new.looked } in (
      no_message s w.0 w.2,
      lost_ties was is t c.args.op cause by (allowed_before t (End c.args.op (Gone cause by)) l) h c.take.ensures.rest refl c.take.ensures.looked (refl, refl),
      (omega (arith, c.take.ensures.len, one), omega (arith, c.take.ensures.len, one, c.take.ensures.capacity, was.waiting.small.1)),
    )
