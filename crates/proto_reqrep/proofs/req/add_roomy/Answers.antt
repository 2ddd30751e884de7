use Rattle.std.proofs.lemmas.Result.{on_ok_weaker}
use Rattle.proto_reqrep.proofs.RoomyPipes.{kept}
use Rattle.proto_reqrep.proofs.req.add_roomy.Goals as goal

pub returns : goal.returns
returns c = kept c.insert.result c.p.inside.0 c.args.roomy.now.keys c.insert.new.self.keys (on_ok_weaker c.insert.result (λ u. u.0) c.insert.ensures.updates) c.insert.ensures.err
