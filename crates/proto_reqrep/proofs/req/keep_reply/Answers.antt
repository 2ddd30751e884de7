use Rattle.std.proofs.Common.{◌≡◌, ◌∙◌, ap, rules}
use Rattle.std.specs.Prelude.{◌==◌}
use Rattle.proto_requests.proofs.TestValues.{same_number}
use Rattle.proto_reqrep.proofs.Hinted.{ready_kept, ready_unkept}
use Rattle.proto_reqrep.proofs.req.keep_reply.Goals as goal

pub returns-in-None-clause-ready : goal.returns-in-None-clause-ready
returns-in-None-clause-ready c = λ ws r. ready_unkept c.args.ready.now c.args.live.now.items c.keep_reply.new.self.items ws c.args.id c.args.kept c.keep_reply.ensures.items c.in-None.ensures.ctx r

pub returns-in-Some-clause-ready : goal.returns-in-Some-clause-ready
returns-in-Some-clause-ready c = λ ws r.
    let is : c.c.inside.0 ≡ c.in-Some.c = search rules in
    ready_kept c.args.ready.now c.add.new.self c.args.live.now.items c.keep_reply.new.self.items ws c.args.id c.args.kept c.in-Some.c c.keep_reply.ensures.items c.in-Some.ensures.ctx (c.add.ensures.more (λ n. n == c.in-Some.c) (ap (λ n. n == c.in-Some.c) is ∙ same_number c.in-Some.c)) (λ q k. c.add.ensures.same (λ n. n == q) k) r
