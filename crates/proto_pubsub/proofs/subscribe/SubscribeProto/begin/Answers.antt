use Rattle.std.proofs.Common.{rules, refl, ◌≡◌, ◌++◌, ◌∷◌, []}
use Rattle.proto_pubsub.specs.declared.subscribe.Subscribe.{Subscribe}
use Rattle.proto_pubsub.specs.declared.subscribe.WaitingReceive.{WaitingReceive}
use Rattle.proto_pubsub.proofs.Subscribed.{begun_ties}
use Rattle.proto_pubsub.proofs.subscribe.SubscribeProto.begin.Goals as goal

pub returns-in-Recv-clause-begun : goal.returns-in-Recv-clause-begun
returns-in-Recv-clause-begun c =
    λ t deadline n l h.
    let was = c.args.self.now in
    let w : WaitingReceive = record { op = c.args.op; ctx = c.args.c } in
    let items : c.push_back_reserved.new.self.items ≡ was.waiting.items ++ w ∷ [] = search rules in
    let is : Subscribe = record { alloc = was.alloc; raw = was.raw; options = was.options; contexts = was.contexts; waiting = c.push_back_reserved.new.self; looked = was.looked } in
    rw c.in-Recv.is (begun_ties was is t w deadline h items refl refl (refl, refl))
