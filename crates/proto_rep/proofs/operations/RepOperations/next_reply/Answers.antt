use Rattle.proto_rep.proofs.ByKind.{reply_offered}
use Rattle.proto_rep.proofs.operations.RepOperations.next_reply.Goals as goal

pub returns-clause-offer : goal.returns-clause-offer
returns-clause-offer c = λ ws h s. reply_offered c.args.raw c.args.ports.now.items c.args.self.now.replies.items ws c.next.result h.replies (c.next.ensures.offer s)
