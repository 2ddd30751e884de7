use Rattle.std.specs.Prelude.{find}
use Rattle.proto_requests.proofs.Spotted.{unmapped}
use Rattle.proto_reqrep.specs.Reqs.{is_sending}
use Rattle.proto_reqrep.proofs.req.Request.next_out.Goals as goal

pub returns-in-None-next_due-clause-offer : goal.returns-in-None-next_due-clause-offer
returns-in-None-next_due-clause-offer c = λ last a h. (unmapped _ (find is_sending c.args.self.now.waiting.items) c.in-None.ensures, c.in-None-next_due.ensures.none last a h)
